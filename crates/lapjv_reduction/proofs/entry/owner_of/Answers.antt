-- `owner_of` meets its contract. Assumes nothing.
use mathlib.Core.Path.{sym}
use Rattle.lapjv_definition.proofs.EntryLaws.{owner_row, owner_free}
use Rattle.lapjv_reduction.proofs.entry.owner_of.Goals as goal

pub returns-then-r-n : goal.returns-then-r-n
returns-then-r-n c = sym (owner_row _ _ c.if-r-n.true)

pub returns-else-r-n : goal.returns-else-r-n
returns-else-r-n c = sym (owner_free _ _ c.if-r-n.false)
