-- `cost::sure_cost` meets its contract: each return is the definition's where the test is as the return found it. Assumes nothing.
use Rattle.assoc_cost.specs.Private.{sure_cost}
use Rattle.assoc_cost.proofs.cost.sure_cost.Goals as goal

pub returns-then-params : goal.returns-then-params
unfolding sure_cost
returns-then-params c = rw (c.if-params.true, c.shape-likeness.ensures)

pub returns : goal.returns
unfolding sure_cost
returns c = rw c.if-params.false
