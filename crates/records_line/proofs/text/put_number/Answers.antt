-- `records_line::text::put_number` meets its contract: the byte is stored where the digits end. Assumes nothing.
use native.Mathlib.Omega.{arith}
use Rattle.records_line.proofs.Laws.Lengths.{length_digits}
use Rattle.records.proofs.Puts.{put_next, put_byte}
use Rattle.records_line.proofs.text.put_number.Goals as goal

pub bounds-out-end : goal.bounds-out-end
bounds-out-end c = omega (arith, c.requires.fits, put_next c.put_digits-end.ensures _ (length_digits _ _ _))

pub returns : goal.returns
returns c = put_byte c.put_digits-end.ensures _ (omega (arith, c.requires.fits, put_next c.put_digits-end.ensures _ (length_digits _ _ _)))
