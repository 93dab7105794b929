-- `lines::share` meets its contract. Assumes nothing.
use Rattle.assoc_boxes.specs.Overlap.{ratio}
use Rattle.why_words.proofs.lines.share.Goals as goal

pub returns-then-union : goal.returns-then-union
unfolding ratio
returns-then-union c = rw c.if-union.true

pub returns : goal.returns
unfolding ratio
returns c = rw c.if-union.false
