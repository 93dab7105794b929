-- `progress::refilled` meets its contract. Assumes nothing.
use Rattle.trackbox_io.proofs.ProgressLaws.{was_read, not_read}
use Rattle.trackbox_io.proofs.progress.refilled.Goals as goal

pub returns-in-Some : goal.returns-in-Some
returns-in-Some c = was_read _ _ c.in-Some.is c.saturating_sub.ensures

pub returns-in-None : goal.returns-in-None
returns-in-None c = not_read _ _ c.in-None.is c.stopped.ensures
