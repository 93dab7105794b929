-- `ccrt_reduce` meets its contract. The invariant: what is left of the definition's rows gives the whole, and no more rows are listed than passed; the measure is the rows left. Assumes nothing.
use Rattle.lapjv_definition.proofs.CcrtLaws.{red_again, red_done}
use Rattle.lapjv_reduction.proofs.ccrt.ccrt_reduce.Goals as goal

pub loop-i-preserved : goal.loop-i-preserved
loop-i-preserved c =
    red_again c.loop-i.invariant c.loop-i-test.true c.reduce_step-n_free_rows.ensures c.reduce_step-n_free_rows.auto.free_rows c.reduce_step-n_free_rows.auto.v

pub returns : goal.returns
returns c = red_done c.loop-i.invariant c.loop-i-test.false
