-- `number::digits_of` meets its contract. The loop's invariant: the digits before place i are read, and what is left decides. Assumes nothing.
use Rattle.mot_number.proofs.Forms.{Counting}
use Rattle.mot_number.proofs.number.digits_of.Given as goal

abbrev pub invariant-loop-b : goal.invariant-loop-b
invariant-loop-b l = Counting l.text l.before l.b-index l.value
