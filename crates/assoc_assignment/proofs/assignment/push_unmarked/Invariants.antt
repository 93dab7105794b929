-- `assignment::push_unmarked` meets its contract. The loop's invariant: of the places before `i` those that are not marked are pushed, `k` of them. Assumes nothing.
use mathlib.Core.Bool.{false, not}
use lib.ListN.{length, get_or}
use Rattle.laws.specs.Collecting.{Collecting}
use Rattle.assoc_assignment.proofs.assignment.push_unmarked.Given as goal

abbrev pub invariant-loop-i : goal.invariant-loop-i
invariant-loop-i l = Collecting (λ j. not (get_or l.marks j false)) l.initial.out (length l.marks) l.i l.k l.out
