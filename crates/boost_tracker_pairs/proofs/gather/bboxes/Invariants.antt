-- `gather::bboxes` meets its contract. The loop's invariant: the corners of the first i objects are stored, and the next start at `at`. Assumes nothing.
use Prim.Native.Nat.{◌*◌}
use Rattle.laws.specs.Grid.{Rowing}
use Rattle.boost_tracker_verdict.specs.Verdict.{boxes_in}
use Rattle.boost_tracker_definition.specs.Update.{corners_of, xyxy_of}
use Rattle.boost_tracker_pairs.proofs.gather.bboxes.Given as goal

abbrev pub invariant-loop-i : goal.invariant-loop-i
invariant-loop-i l = Rowing (λ k. corners_of (xyxy_of l.objects k)) (boxes_in l.objects) 4 l.initial.corners l.i (l.i * 4) l.corners
