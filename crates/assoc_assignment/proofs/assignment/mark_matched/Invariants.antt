-- `assignment::mark_matched` meets its contract. The loop's invariant: what is marked are the boxes and tracks of the pairs of the rows before `i`. Assumes nothing.
use Prim.Native.Nat.{◌≤◌}
use lib.ListN.{length, get_or}
use Rattle.assoc_matching.specs.Partners.{pairs_of}
use Rattle.assoc_assignment.specs.Private.{Marked}
use Rattle.assoc_assignment.proofs.assignment.mark_matched.Given as goal

abbrev pub invariant-loop-i : goal.invariant-loop-i
invariant-loop-i l = (l.i ≤ length l.partner) × Marked (pairs_of l.ncols (λ q. get_or l.partner q 0) l.i) (length l.partner) l.ncols l.boxes l.tracks
