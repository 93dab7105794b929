-- `find_dense` meets its contract. The invariant: what is left of the definition's passes gives the whole, and hi is at most k; the measure is the columns left. Assumes nothing.
use Rattle.lapjv_definition.proofs.FindLaws.{find_again, find-done}
use Rattle.lapjv_augmentation.proofs.find.find_dense.Goals as goal

pub loop-k-preserved : goal.loop-k-preserved
loop-k-preserved c =
    let f = c.find_step-s in
    find_again c.loop-k.invariant c.loop-k-test.true f.ensures f.auto.cols

pub returns : goal.returns
returns c = find-done c.loop-k.invariant c.loop-k-test.false
