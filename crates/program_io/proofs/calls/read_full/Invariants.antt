-- The loop of `calls::read_full`: so many of the slice's bytes are read at most. The measure is the room that is left.
use Rattle.std.proofs.Common.{◌-◌, ◌≤◌}
use Rattle.program_io.proofs.calls.read_full.Given as goal

abbrev pub invariant-loop-n : goal.invariant-loop-n
invariant-loop-n g l = l.n ≤ l.size

abbrev pub decreases-loop-n : goal.decreases-loop-n
decreases-loop-n g l = l.size - l.n
