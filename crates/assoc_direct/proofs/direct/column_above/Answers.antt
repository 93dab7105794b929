-- `direct::column_above` meets its contract. The loop's invariant: no cell from `j` on is above the threshold. Assumes nothing.
use mathlib.Core.Path.{ap}
use lib.Ieee.{lt}
use Rattle.assoc_direct.specs.Simple.{above}
use Rattle.assoc_direct.proofs.DirectLaws.{back_on, back_found, back_done}
use Rattle.assoc_direct.proofs.direct.column_above.Goals as goal

pub returns-then-threshold-c : goal.returns-then-threshold-c
unfolding above
returns-then-threshold-c c = back_found _ _ c.loop-j.invariant c.loop-j-test.true (ap (lt c.args.threshold) c.at-c.ensures) c.if-threshold-c.true

pub loop-j-preserved : goal.loop-j-preserved
unfolding above
loop-j-preserved c = back_on _ _ c.loop-j.invariant c.loop-j-test.true (ap (lt c.args.threshold) c.at-c.ensures) c.if-threshold-c.false

pub returns : goal.returns
returns c = back_done _ _ c.loop-j.invariant c.loop-j-test.false
