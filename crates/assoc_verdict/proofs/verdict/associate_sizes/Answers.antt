-- `verdict::associate_sizes` meets its contract: each return is the verdict where the tests are as that return found them. Assumes nothing.
use mathlib.Core.Path.{◌∙◌}
use Rattle.laws.specs.Sides.{sides_fit}
use Rattle.refusals.proofs.Laws.{few-sides}
use Rattle.assoc_verdict.specs.Verdict.{associate_sizes}
use Rattle.assoc_verdict.proofs.Laws.{sizes_rest}
use Rattle.assoc_verdict.proofs.verdict.associate_sizes.Goals as goal

pub returns-then-lengths : goal.returns-then-lengths
unfolding associate_sizes
returns-then-lengths c = rw c.if-lengths.true

pub overflow_mul-lengths : goal.overflow_mul-lengths
overflow_mul-lengths c = let low = few-sides _ _ c.if-lengths.false in record { fits = sides_fit low.0 low.1 }

pub returns-then-params-mahalanobis : goal.returns-then-params-mahalanobis
unfolding associate_sizes
returns-then-params-mahalanobis c = rw (c.if-lengths.false, c.if-params-mahalanobis.true)

pub returns-then-box_labels-lengths : goal.returns-then-box_labels-lengths
unfolding associate_sizes
returns-then-box_labels-lengths c = rw (c.if-lengths.false, c.if-params-mahalanobis.false, c.if-box_labels-lengths.true)

pub returns : goal.returns
returns c = c.within_verdict.ensures ∙ sizes_rest _ _ _ _ _ _ _ _ _ _ _ _ _ c.if-lengths.false c.if-params-mahalanobis.false c.if-box_labels-lengths.false
