-- `lines::shift` meets its contract: so many bytes have come to the front, and those behind them are as they were. Assumes nothing.
use Rattle.motbox_io.proofs.Buffers.{Moved}
use Rattle.motbox_io.proofs.lines.shift.Given as goal

abbrev pub invariant-loop-i : goal.invariant-loop-i
invariant-loop-i l = Moved l.initial.input l.next l.i-end l.input l.i
