-- `vectors::line::Line::digest` meets its contract: a space, and as many digits as the number has. Assumes nothing.
use native.Mathlib.Omega.{arith}
use Rattle.vectors.proofs.Printing.{spelling}
use Rattle.vectors.proofs.line.Line.digest.Goals as goal

pub returns : goal.returns
returns c =
    spelling 16 16 _ _ _ _ _ _ (omega arith) c.hex-k.ensures.len (omega arith) (omega arith) c.hex-k.ensures.digits c.text.ensures c.text-2.ensures
