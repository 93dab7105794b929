-- `progress::later` meets its contract. Assumes nothing.
use Rattle.trackbox_progress.proofs.ProgressLaws.{later-one, later_same}
use Rattle.trackbox_progress.proofs.progress.later.Goals as goal

pub returns-then-next-got : goal.returns-then-next-got
returns-then-next-got c = later-one _ _ c.if-next-got.true

pub returns : goal.returns
returns c = later_same _ _ c.if-next-got.false
