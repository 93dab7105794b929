-- `progress::known` meets its contract. Assumes nothing.
use Rattle.trackbox_io.proofs.progress.known.Goals as goal

pub returns : goal.returns
returns c = rw c.end_of.ensures
