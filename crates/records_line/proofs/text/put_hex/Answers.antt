-- `records_line::text::put_hex` meets its contract. Assumes nothing.
use Rattle.records_line.proofs.Placing.{hex-is}
use Rattle.records_line.proofs.text.put_hex.Goals as goal

pub returns : goal.returns
returns c = rw (hex-is _ _ c.bits.ensures) at c.put_number.ensures
