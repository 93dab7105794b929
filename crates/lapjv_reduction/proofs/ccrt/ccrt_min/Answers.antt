-- `ccrt_min` meets its contract. The invariant: what is left of the definition's passes gives the whole; the measure is the columns left. Assumes nothing.
use Rattle.lapjv_definition.proofs.CcrtLaws.{min_again, min_done}
use Rattle.lapjv_reduction.proofs.ccrt.ccrt_min.Goals as goal

pub loop-j2-preserved : goal.loop-j2-preserved
loop-j2-preserved c = min_again c.loop-j2.invariant c.loop-j2-test.true (rw c.at.ensures at c.min_step-min.ensures)

pub returns : goal.returns
returns c = min_done c.loop-j2.invariant c.loop-j2-test.false
