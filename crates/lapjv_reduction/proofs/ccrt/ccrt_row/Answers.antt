-- `ccrt_row` meets its contract. The invariant: what is left of the definition's passes gives the whole; the measure is the columns left. Assumes nothing.
use Rattle.lapjv_definition.proofs.CcrtLaws.{row_again, row_done}
use Rattle.lapjv_reduction.proofs.ccrt.ccrt_row.Goals as goal

pub loop-j-preserved : goal.loop-j-preserved
loop-j-preserved c =
    row_again c.loop-j.invariant c.loop-j-test.true (rw c.at.ensures at c.row_step.ensures) c.row_step.auto.y c.row_step.auto.v

pub returns : goal.returns
returns c = row_done c.loop-j.invariant c.loop-j-test.false
