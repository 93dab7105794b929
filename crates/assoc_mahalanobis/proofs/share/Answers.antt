-- `share` meets its contract: each return is the definition's where the test is as the return found it. Assumes nothing.
use Rattle.assoc_mahalanobis.specs.Private.{share}
use Rattle.assoc_mahalanobis.proofs.share.Goals as goal

pub returns-then-e : goal.returns-then-e
unfolding share
returns-then-e c = rw c.if-e.true

pub returns : goal.returns
unfolding share
returns c = rw c.if-e.false
