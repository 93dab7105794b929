-- `tool::answered` meets its contract: the box's lot is read from the fronts of the lists, and its track is loaded. Assumes nothing.
use mathlib.Core.Path.{sym}
use Prim.Native.Nat.{◌≤◌}
use native.Mathlib.Omega.{arith}
use lib.ListN.{length, take}
use lib.Seq.{length-take-le}
use Rattle.assoc_assignment.specs.Answers.{lists_with}
use Rattle.boost_tracker_table.specs.Lent.{table_with}
use Rattle.boost_tracker_verdict.specs.Boxes.{boxes_with}
use Rattle.boost_tracker_fate.proofs.LotCases.{lot-few}
use Rattle.boost_tracker_why.proofs.WhyLaws.{answered-is}
use Rattle.boost_tracker_why.proofs.tool.answered.Goals as goal
use Rattle.boost_tracker_why.proofs.tool.answered.Goals.{Start}

started : (c : Start) → length (take c.args.counts.detections c.args.unmatched.now) ≤ 255
started c = omega (arith, c.requires.few.1, length-take-le c.args.counts.detections c.args.unmatched.now (omega (arith, c.requires.few.1, c.requires.unmatched_fit)))

pub slice_bounds-lot_of-end : goal.slice_bounds-lot_of-end
slice_bounds-lot_of-end c = sym (length-take-le _ _ (omega (arith, c.requires.few.0, c.requires.pair-boxes_fit)))

pub slice_bounds-lot_of-end-2 : goal.slice_bounds-lot_of-end-2
slice_bounds-lot_of-end-2 c = sym (length-take-le _ _ (omega (arith, c.requires.few.0, c.requires.pair-tracks_fit)))

pub slice_bounds-lot_of-end-3 : goal.slice_bounds-lot_of-end-3
slice_bounds-lot_of-end-3 c = sym (length-take-le _ _ (omega (arith, c.requires.few.1, c.requires.unmatched_fit)))

pub slice_bounds-lot_of-end-4 : goal.slice_bounds-lot_of-end-4
slice_bounds-lot_of-end-4 c = sym (length-take-le _ _ (omega (arith, c.requires.few.2, c.requires.left_fit)))

pub slice_bounds-partner_in-end : goal.slice_bounds-partner_in-end
slice_bounds-partner_in-end c = sym (length-take-le _ _ c.requires.labelled)

pub partner_in-partner-requires : goal.partner_in-partner-requires
partner_in-partner-requires c = omega (arith, c.requires.given)

pub overflow_mul-score : goal.overflow_mul-score
overflow_mul-score c = omega (arith, c.requires.given, c.requires.boxes-low)

pub overflow_add-score : goal.overflow_add-score
overflow_add-score c = omega (arith, c.requires.given, c.requires.boxes-low)

pub offset_bounds-boxes-index : goal.offset_bounds-boxes-index
offset_bounds-boxes-index c = omega (arith, c.requires.given, c.requires.boxes-low)

pub bounds-boxes-index : goal.bounds-boxes-index
bounds-boxes-index c = omega (arith, c.requires.given, c.requires.boxes-low)

pub started_id-id-requires : goal.started_id-id-requires
started_id-id-requires c = (lot-few _ _ _ _ _ _ _ c.lot_of-lot.ensures (started (goal.at.started_id-id-requires c).Start), c.requires.ids-low)

pub returns : goal.returns
returns c =
    let a = c.args in
    answered-is a.settings a.state a.seen (table_with a.floats.now a.counters.now a.labels.now) (boxes_with a.boxes.now a.box_labels.now) a.index
    (lists_with a.pair_boxes.now a.pair_tracks.now a.unmatched.now a.left.now) a.counts c.lot_of-lot.ensures c.partner_in-partner.ensures c.started_id-id.ensures c.told.ensures
