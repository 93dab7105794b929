-- `ccrt_rows` meets its contract. The invariant: what is left of the definition's rows gives the whole; the measure is the rows left. Assumes nothing.
use Rattle.lapjv_definition.proofs.CcrtLaws.{rows_again, rows-done}
use Rattle.lapjv_reduction.proofs.ccrt.ccrt_rows.Goals as goal

pub loop-i-preserved : goal.loop-i-preserved
loop-i-preserved c =
    rows_again c.loop-i.invariant c.loop-i-test.true c.ccrt_row.ensures c.ccrt_row.auto.y c.ccrt_row.auto.v

pub returns : goal.returns
returns c = rows-done c.loop-i.invariant c.loop-i-test.false
