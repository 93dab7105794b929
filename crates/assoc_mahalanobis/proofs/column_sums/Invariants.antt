-- The invariant of `column_sums`: `sums` has the sums of the rows before the one at hand. Assumes nothing.
use lib.ListN.{length}
use Rattle.assoc_mahalanobis.proofs.Softmax.{Summing}
use Rattle.assoc_mahalanobis.proofs.column_sums.Given as goal

abbrev pub invariant-loop-i : goal.invariant-loop-i
invariant-loop-i l = Summing l.matrix l.beyond l.boxes (length l.initial.sums) l.i l.sums
