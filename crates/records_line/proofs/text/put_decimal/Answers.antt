-- `records_line::text::put_decimal` meets its contract: as many digits as n has are its decimal digits. Assumes nothing.
use native.Mathlib.Omega.{arith}
use Rattle.records_line.proofs.Laws.Lengths.{length-decimal}
use Rattle.records_line.proofs.Placing.{decimal-is}
use Rattle.records_line.proofs.text.put_decimal.Goals as goal

pub put_number-requires-clause-fits : goal.put_number-requires-clause-fits
put_number-requires-clause-fits c = omega (arith, c.requires, c.places.ensures, length-decimal c.args.n)

pub returns : goal.returns
returns c = rw (decimal-is _ _ c.places.ensures) at c.put_number.ensures
