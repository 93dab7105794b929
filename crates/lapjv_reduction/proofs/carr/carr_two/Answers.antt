-- `carr_two` meets its contract. The invariant: what is left of the definition's passes gives the whole; the measure is the columns left. Assumes nothing.
use Rattle.lapjv_definition.specs.Carr.{carr_two}
use Rattle.lapjv_definition.proofs.CarrLaws.{two_again, two-done}
use Rattle.lapjv_reduction.proofs.carr.carr_two.Goals as goal

pub loop-j-preserved : goal.loop-j-preserved
loop-j-preserved c = two_again c.loop-j.invariant c.loop-j-test.true (rw c.at-in-loop-j.ensures at c.two_step-t.ensures)

pub returns : goal.returns
unfolding carr_two
returns c = rw c.at.ensures at (two-done c.loop-j.invariant c.loop-j-test.false)
