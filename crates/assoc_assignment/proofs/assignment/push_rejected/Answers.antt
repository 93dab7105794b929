-- `assignment::push_rejected` meets its contract. The parts from a and from b on are lent. Assumes nothing.
use native.Mathlib.Omega.{arith}
use Rattle.assoc_direct.proofs.PairLaws.{wrote_many}
use Rattle.assoc_assignment.proofs.ListLaws.{part_room, tails}
use Rattle.assoc_assignment.proofs.assignment.push_rejected.Goals as goal

pub write_picked-k-requires : goal.write_picked-k-requires
write_picked-k-requires c =
    let a = c.args in
    record { rows = c.requires.rows; room = part_room _ a.a a.b a.detections.now a.tracks.now c.requires.room }

pub offset_bounds-detections-a : goal.offset_bounds-detections-a
offset_bounds-detections-a c = omega (arith, c.requires.room.boxes_fit)

pub slice_bounds-write_picked-count : goal.slice_bounds-write_picked-count
slice_bounds-write_picked-count c = omega (arith, c.requires.room.boxes_fit)

pub slice_bounds-write_picked-start : goal.slice_bounds-write_picked-start
slice_bounds-write_picked-start c = omega (arith, c.requires.room.boxes_fit)

pub slice_bounds-write_picked-end : goal.slice_bounds-write_picked-end
slice_bounds-write_picked-end c = omega (arith, c.requires.room.boxes_fit)

pub offset_bounds-tracks-b : goal.offset_bounds-tracks-b
offset_bounds-tracks-b c = omega (arith, c.requires.room.tracks_fit)

pub slice_bounds-write_picked-count-2 : goal.slice_bounds-write_picked-count-2
slice_bounds-write_picked-count-2 c = omega (arith, c.requires.room.tracks_fit)

pub slice_bounds-write_picked-start-2 : goal.slice_bounds-write_picked-start-2
slice_bounds-write_picked-start-2 c = omega (arith, c.requires.room.tracks_fit)

pub slice_bounds-write_picked-end-2 : goal.slice_bounds-write_picked-end-2
slice_bounds-write_picked-end-2 c = omega (arith, c.requires.room.tracks_fit)

pub overflow_add-result : goal.overflow_add-result
overflow_add-result c = omega (arith, wrote_many c.write_picked-k.ensures, c.requires.room.boxes-few)

pub overflow_add-result-2 : goal.overflow_add-result-2
overflow_add-result-2 c = omega (arith, wrote_many c.write_picked-k.ensures, c.requires.room.tracks-few)

pub returns : goal.returns
returns c = tails _ _ _ _ _ c.write_picked-k.ensures
