-- `direct::is_matrix` meets its contract. Assumes nothing.
use mathlib.Core.Path.{sym, ap, ◌∙◌}
use mathlib.Core.Bool.{not}
use Rattle.assoc_direct.specs.Direct.{is_matrix}
use Rattle.assoc_direct.proofs.direct.is_matrix.Goals as goal

pub returns-then-not-too_many : goal.returns-then-not-too_many
unfolding is_matrix
returns-then-not-too_many c = rw (sym c.too_many.ensures ∙ c.if-not-too_many.true)

pub returns-else-not-too_many : goal.returns-else-not-too_many
unfolding is_matrix
returns-else-not-too_many c = rw (sym c.too_many.ensures ∙ c.if-not-too_many.false) (ap not c.if-not-too_many.false)
