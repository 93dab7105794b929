-- `assignment::list` meets its contract. Assumes nothing.
use Rattle.assoc_matching.specs.Partners.{held}
use Rattle.assoc_assignment.specs.Answers.{lists_with}
use Rattle.assoc_assignment.proofs.ListLaws.{kept_room, left-room, both_listed}
use Rattle.assoc_assignment.proofs.assignment.list.Goals as goal

pub write_picked-pairs-requires : goal.write_picked-pairs-requires
write_picked-pairs-requires c =
    record { rows = c.requires.rows.long; room = kept_room _ _ _ _ c.requires.rows c.requires.room.pairs_fit c.requires.room.partners_fit }

pub leave-rest-requires : goal.leave-rest-requires
leave-rest-requires c =
    record { rows = c.requires.rows.long; room = left-room _ _ _ _ c.requires.rows c.requires.room }

pub returns : goal.returns
returns c =
    let a = c.args in
    both_listed _ a.iou.nrows a.iou.ncols (held a.iou.ncols a.partner.now) (lists_with a.boxes.now a.tracks.now a.detections.now a.left.now)
    c.requires.rows.long c.write_picked-pairs.ensures c.leave-rest.ensures
