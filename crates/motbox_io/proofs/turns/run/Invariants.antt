-- `turns::run` meets its contract. The loop's invariant: the buffers keep their lengths, and the turns that were made are a run that has come this far.
-- Assumes nothing.
use Rattle.motbox_io.proofs.Theorem.{Looping}
use Rattle.motbox_io.proofs.turns.run.Given as goal

abbrev pub invariant-loop-made : goal.invariant-loop-made
invariant-loop-made l = Looping l._made l.now l.input l.out
