-- `assignment::write_picked` meets its contract: a row whose pair is not picked has no column. Assumes nothing.
use Rattle.std.proofs.Common.{rules, sym}
use lib.ListN.{get_or}
use Rattle.assoc_assignment.specs.Assignment.{valid_match}
use Rattle.assoc_assignment.specs.Private.{chosen, picked}
use Rattle.assoc_assignment.proofs.ListLaws.{picked-room, picked_wrote}
use Rattle.assoc_assignment.proofs.assignment.write_picked.Goals as goal

pub returns : goal.returns
returns c =
    let a = c.args in
    let iou = a.iou in
    picked_wrote _ _ a.partner.now (sym c.requires.rows)
    (c.put_pairs.ensures (λ i. picked (λ p. chosen a.wanted (valid_match iou.cells.now iou.ncols a.threshold p)) iou.ncols i (get_or a.partner.now i 0)) (λ i j h k. search rules)
    (rw c.requires.rows at (picked-room _ _ a.partner.now c.requires.room)))
