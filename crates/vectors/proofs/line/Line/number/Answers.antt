-- `vectors::line::Line::number` meets its contract: a space, and as many digits as the number has. Assumes nothing.
use native.Mathlib.Omega.{arith}
use Rattle.vectors.proofs.Printing.{spelling}
use Rattle.vectors.proofs.line.Line.number.Goals as goal

pub returns : goal.returns
returns c =
    spelling 10 1 _ _ _ _ _ _ (omega arith) c.decimal-k.ensures.len (omega arith) (omega arith) c.decimal-k.ensures.digits c.text.ensures c.text-2.ensures
