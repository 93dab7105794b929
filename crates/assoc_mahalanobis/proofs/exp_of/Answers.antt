-- `exp_of` meets its contract: each return is the definition's where the test is as the return found it. Assumes nothing.
use mathlib.Core.Path.{◌∙◌}
use Rattle.assoc_mahalanobis.specs.Private.{exp_of}
use Rattle.assoc_mahalanobis.proofs.exp_of.Goals as goal

pub returns-then-v : goal.returns-then-v
unfolding exp_of
returns-then-v c = rw c.if-v.true

pub returns : goal.returns
unfolding exp_of
returns c = c.exp.ensures ∙ rw c.if-v.false
