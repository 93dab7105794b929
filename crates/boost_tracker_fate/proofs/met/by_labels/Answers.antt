-- `met::by_labels` meets its contract. Assumes nothing.
use Rattle.boost_tracker_fate.proofs.met.by_labels.Goals as goal

pub returns-then-same : goal.returns-then-same
returns-then-same c = rw c.if-same.true

pub returns : goal.returns
returns c = rw c.if-same.false
