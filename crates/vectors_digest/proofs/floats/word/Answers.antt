-- `vectors_digest::floats::word` meets its contract: the test is the definition's. Assumes nothing.
use Rattle.vectors_digest.specs.Floats.{word}
use Rattle.vectors_digest.proofs.floats.word.Goals as goal

pub returns-then-x : goal.returns-then-x
unfolding word
returns-then-x c = rw c.if-x.true

pub returns : goal.returns
unfolding word
returns c = rw c.if-x.false c.bits.ensures
