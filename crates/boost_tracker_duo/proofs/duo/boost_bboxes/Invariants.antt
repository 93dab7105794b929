-- The invariant of `duo::boost_bboxes`. The loop's invariant: the corners of the first i candidates are stored, and the other cells are as they were. Assumes nothing.
use Prim.Native.Nat.{◌*◌}
use lib.ListN.{get_or, length}
use Rattle.boost_tracker_duo.specs.Private.{box_of}
use Rattle.laws.specs.Grid.{Rowing}
use Rattle.boost_tracker_duo.proofs.duo.boost_bboxes.Given as goal

abbrev pub invariant-loop-i : goal.invariant-loop-i
invariant-loop-i l = Rowing (λ k. box_of l.detections (get_or l.candidates k 0)) (length l.candidates) 4 l.initial.out l.i (l.i * 4) l.out
