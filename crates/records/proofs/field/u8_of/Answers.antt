-- `records::field::u8_of` meets its contract. Assumes nothing.
use Rattle.records.proofs.Values.{one_byte}
use Rattle.records.proofs.field.u8_of.Goals as goal

pub returns : goal.returns
returns c = one_byte _ c.requires
