-- `summand` meets its contract: each return is the definition's where the test is as the return found it. Assumes nothing.
use Rattle.assoc_mahalanobis.specs.Private.{summand}
use Rattle.assoc_mahalanobis.proofs.summand.Goals as goal

pub returns-then-e : goal.returns-then-e
unfolding summand
returns-then-e c = rw c.if-e.true

pub returns : goal.returns
unfolding summand
returns c = rw c.if-e.false
