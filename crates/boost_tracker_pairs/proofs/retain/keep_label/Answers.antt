-- `retain::keep_label` meets its contract. Assumes nothing.
use mathlib.Core.Path.{refl}
use Rattle.boost_tracker_pairs.proofs.retain.keep_label.Goals as goal

pub returns-then-score-thresh : goal.returns-then-score-thresh
returns-then-score-thresh c = rw c.if-score-thresh.true (record { count = refl; cells = refl })

pub returns : goal.returns
returns c = rw c.if-score-thresh.false (record { count = refl; cells = refl })
