-- `records_line::text::write_decimal` meets its contract: n has as many bytes as digits. Assumes nothing.
use mathlib.Core.Path.{◌∙◌, sym}
use Rattle.records_line.proofs.Laws.Lengths.{length-decimal}
use Rattle.records_line.proofs.Placing.{decimal-is}
use Rattle.records.proofs.Puts.{writes_text, no_text}
use Rattle.records_line.proofs.text.write_decimal.Goals as goal

pub returns-then-out-k : goal.returns-then-out-k
returns-then-out-k c = no_text _ _ (length-decimal _ ∙ sym c.places-k.ensures) c.if-out-k.true

pub returns : goal.returns
returns c = let e = c.places-k.ensures in writes_text (length-decimal _ ∙ sym e) c.if-out-k.false (rw (decimal-is _ _ e) at c.put_digits.ensures)
