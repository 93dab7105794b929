-- `records::field::u32_of` meets its contract. Assumes nothing.
use mathlib.Core.Path.{◌∙◌}
use Rattle.records.proofs.Values.{value-four}
use Rattle.records.proofs.field.u32_of.Goals as goal

pub returns : goal.returns
returns c = c.from_le_bytes.ensures ∙ value-four _ c.requires
