-- `line::field_count` meets its contract. The loop's invariant: so many fields begin before place `at` or there. Assumes nothing.
use Rattle.mot_fault.proofs.Walking.{count-ends, count-on, count-full}
use Rattle.mot_fault.proofs.line.field_count.Goals as goal

pub returns-then-rest-end : goal.returns-then-rest-end
returns-then-rest-end c = count-ends c.loop-n.invariant c.comma-end.result c.comma-end.ensures c.loop-n-test.true c.if-rest-end.true

pub loop-n-preserved : goal.loop-n-preserved
loop-n-preserved c = count-on c.loop-n.invariant c.comma-end.result c.comma-end.ensures c.loop-n-test.true c.if-rest-end.false

pub returns : goal.returns
returns c = count-full c.loop-n.invariant c.loop-n-test.false
