-- `records::field::u64_of` meets its contract. Assumes nothing.
use mathlib.Core.Path.{◌∙◌}
use Rattle.records.proofs.Values.{value-eight}
use Rattle.records.proofs.field.u64_of.Goals as goal

pub returns : goal.returns
returns c = c.from_le_bytes.ensures ∙ value-eight _ c.requires
