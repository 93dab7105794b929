-- `matching::cost_cell` meets its contract. Assumes nothing.
use Rattle.std.proofs.Common.{le_trans, lit≤, le→leb, le-ltb, lt-ltb}
use lib.Ieee.{in_float}
use Rattle.assoc_matching.specs.Matching.{cost_cell}
use Rattle.assoc_matching.proofs.matching.cost_cell.Goals as goal

pub returns-then-cost-i : goal.returns-then-cost-i
unfolding cost_cell
returns-then-cost-i c = rw (le-ltb _ _ c.if-cost-i.true)

pub returns-then-cost-j : goal.returns-then-cost-j
unfolding cost_cell
returns-then-cost-j c = rw (lt-ltb _ _ c.if-cost-i.false, le-ltb _ _ c.if-cost-j.true)

pub int_to_float-result : goal.int_to_float-result
unfolding in_float
int_to_float-result c =
    le→leb _ _ (le_trans c.requires (lit≤ tt))

pub returns : goal.returns
unfolding cost_cell
returns c = rw (lt-ltb _ _ c.if-cost-i.false, lt-ltb _ _ c.if-cost-j.false, c.f32_to_f64_with_nan.ensures, c.at.ensures)
