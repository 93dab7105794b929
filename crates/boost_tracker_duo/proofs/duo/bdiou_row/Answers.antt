-- The answers of `duo::bdiou_row`: it meets its contract: the IoU of one candidate and all, with its own cell less 1. Assumes nothing.
use Prim.Native.Nat.{◌*◌, ◌+◌, ◌-◌, ◌≤◌}
use lib.ListN.{drop, length, take}
use mathlib.Core.Path.{◌∙◌, refl}
use native.Mathlib.Omega.{arith}
use Rattle.boost_tracker_duo.proofs.CandidateLaws.{own-filled}
use Rattle.boost_tracker_boosts.proofs.OneRow.{one-accepted, part-four, part-is, row-filled}
use Rattle.assoc_similarity.specs.Overlap.{iou_batch}
use Rattle.boost_tracker_duo.proofs.duo.bdiou_row.Goals as goal

pub returns : goal.returns
returns c =
    let w = c.args in
    let n = c.requires.1.1 in
    let room : w.i * 4 + 4 ≤ length w.bboxes.now = omega (arith, c.requires.0) in
    own-filled w.bboxes.now _ _ (length w.row.now) w.i n (part-is w.bboxes.now w.i)
    (row-filled (iou_batch (take (w.i * 4 + 4 - w.i * 4) (drop (w.i * 4) w.bboxes.now)) w.bboxes.now) _ w.row.now
    (c.iou_batch.ensures.answer ∙ one-accepted (record { four = part-four w.bboxes.now w.i room; trks_fit = c.requires.0; few = c.requires.1.0 }))
    c.iou_batch.ensures.cells refl)
