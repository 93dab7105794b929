-- `turns::end` meets its contract. Assumes nothing.
use native.Mathlib.Omega.{arith}
use Rattle.trackbox_io.proofs.turns.end.Goals as goal

pub flush-requires : goal.flush-requires
flush-requires c = c.requires

pub returns : goal.returns
returns c = (c.if-p.false, omega (arith, c.min.ensures))
