-- The invariant of `duo::raise`. The loop's invariant: the first i candidates that are marked are raised. Assumes nothing.
use lib.ListN.{get_or, length, set}
use mathlib.Core.Bool.{cond, false}
use Rattle.laws.specs.Folding.{Folding}
use Rattle.boost_tracker_duo.proofs.duo.raise.Given as goal

abbrev pub invariant-loop-i : goal.invariant-loop-i
invariant-loop-i l = Folding (λ out k. cond (get_or l.marks k false) (set out (get_or l.candidates k 0) l.raised) out) l.initial.scores (length l.candidates) l.i l.scores
