-- `turns::run` is safe and ends. The loop's invariant: the text keeps its length. Assumes nothing.
use mathlib.Core.Path.{◌≡◌}
use lib.ListN.{length}
use Rattle.why_io.proofs.turns.run.Given as goal

abbrev pub invariant-turns : goal.invariant-turns
invariant-turns g l = length l.text ≡ length l.initial.text
