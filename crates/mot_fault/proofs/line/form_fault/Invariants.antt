-- `line::form_fault` meets its contract. The loop's invariant: the fields before place `at` are fine, and what is left decides. Assumes nothing.
use Rattle.mot_fault.proofs.Walking.{Looked}
use Rattle.mot_fault.proofs.line.form_fault.Given as goal

abbrev pub invariant-loop-i : goal.invariant-loop-i
invariant-loop-i l = Looked l.body l.at l.i
