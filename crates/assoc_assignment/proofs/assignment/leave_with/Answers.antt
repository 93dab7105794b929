-- `assignment::leave_with` meets its contract. The unmatched and the rejected are no more than the boxes, and than the tracks, so that there is room for both runs. Assumes nothing.
use native.Mathlib.Omega.{arith}
use Rattle.assoc_assignment.specs.Assignment.{valid_match}
use Rattle.assoc_assignment.proofs.MarkLaws.{marked_same}
use Rattle.assoc_assignment.proofs.ListLaws.{sized_as, runs, tail-room, left_over}
use Rattle.assoc_assignment.proofs.assignment.leave_with.Goals as goal

pub push_unmarked-a-requires : goal.push_unmarked-a-requires
push_unmarked-a-requires c = omega (arith, (marked_same c.mark_matched.ensures).0, c.requires.room.boxes-all)

pub push_unmarked-b-requires : goal.push_unmarked-b-requires
push_unmarked-b-requires c = omega (arith, (marked_same c.mark_matched.ensures).1, c.requires.room.tracks-all)

pub push_rejected-requires : goal.push_rejected-requires
push_rejected-requires c =
    let asked = c.requires in
    record { rows = asked.rows; room = tail-room _ _ _ _ (sized_as asked.rows c.args.iou.sized) (runs c.mark_matched.ensures c.push_unmarked-a.ensures c.push_unmarked-b.ensures) asked.room }

pub returns : goal.returns
returns c =
    let a = c.args in
    left_over (valid_match a.iou.cells.now a.iou.ncols a.threshold) _ _ _
    (runs c.mark_matched.ensures c.push_unmarked-a.ensures c.push_unmarked-b.ensures) c.push_rejected.ensures

pub mark_matched-requires : goal.mark_matched-requires
mark_matched-requires c = c.requires.clean
