-- `is_free` meets its contract. Assumes nothing.
use Rattle.lapjv_definition.proofs.EntryLaws.{none_free}
use Rattle.lapjv_reduction.proofs.entry.is_free.Goals as goal

pub returns : goal.returns
returns c = rw c.owner_of.ensures at (none_free _ _ c.is_none.ensures)
