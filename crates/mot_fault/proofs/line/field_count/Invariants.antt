-- `line::field_count` meets its contract. The loop's invariant: so many fields begin before place `at` or there. Assumes nothing.
use Rattle.mot_fault.proofs.Walking.{Counted}
use Rattle.mot_fault.proofs.line.field_count.Given as goal

abbrev pub invariant-loop-n : goal.invariant-loop-n
invariant-loop-n l = Counted l.body l.at l.n
