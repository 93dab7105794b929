-- `cost::unsure_cost` meets its contract: each return is the definition's where the test is as the return found it. Assumes nothing.
use Rattle.assoc_cost.specs.Private.{unsure_cost}
use Rattle.assoc_cost.proofs.cost.unsure_cost.Goals as goal

pub returns-then-params : goal.returns-then-params
unfolding unsure_cost
returns-then-params c = rw c.if-params.true

pub returns : goal.returns
unfolding unsure_cost
returns c = rw c.if-params.false
