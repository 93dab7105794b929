-- `direct::direct_columns` meets its contract. Assumes nothing.
use mathlib.Core.Path.{refl, sym, ◌∙◌}
use Rattle.assoc_direct.proofs.DirectLaws.{sized, columns_are, columns_not}
use Rattle.assoc_direct.proofs.direct.direct_columns.Goals as goal

pub returns-then-is_matrix : goal.returns-then-is_matrix
returns-then-is_matrix c = c.fill_columns.ensures ∙ sym (columns_are _ _ _ _ c.is_matrix.ensures c.if-is_matrix.true refl)

pub returns-else-is_matrix : goal.returns-else-is_matrix
returns-else-is_matrix c = sym (columns_not _ _ _ _ c.is_matrix.ensures c.if-is_matrix.false)

pub invariant_of-cost : goal.invariant_of-cost
invariant_of-cost c = record { sized = sized _ _ _ (sym c.is_matrix.ensures ∙ c.if-is_matrix.true) }
