-- `cost::shape` meets its contract: each return is the definition's where the test is as the return found it. Assumes nothing.
use mathlib.Core.Path.{◌∙◌}
use Rattle.assoc_cost.proofs.cost.shape.Goals as goal

pub returns-then-corrected : goal.returns-then-corrected
returns-then-corrected c = c.shape_v2.ensures ∙ rw c.if-corrected.true

pub returns : goal.returns
returns c = c.shape_v1.ensures ∙ rw c.if-corrected.false
