-- `raise` meets its contract. The invariant: what is left of the definition's passes gives the whole; the measure is the columns left. Assumes nothing.
use Rattle.lapjv_definition.proofs.PathLaws.{raise_again, raise_done}
use Rattle.lapjv_augmentation.proofs.path.raise.Goals as goal

pub loop-k-preserved : goal.loop-k-preserved
loop-k-preserved c = raise_again c.loop-k.invariant c.loop-k-test.true

pub returns : goal.returns
returns c = raise_done c.loop-k.invariant c.loop-k-test.false
