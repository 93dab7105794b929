-- `row_of` meets its contract. Assumes nothing.
use mathlib.Core.Path.{◌∙◌}
use Rattle.lapjv_definition.proofs.EntryLaws.{or_row}
use Rattle.lapjv_reduction.proofs.entry.row_of.Goals as goal

pub returns : goal.returns
returns c = rw c.owner_of.ensures at (c.unwrap_or.ensures ∙ or_row c.args.n c.owner_of.result)
