-- `progress::start` meets its contract. Assumes nothing.
use Rattle.trackbox_progress.proofs.progress.start.Goals as goal

pub returns : goal.returns
returns c = rw c.start.ensures
