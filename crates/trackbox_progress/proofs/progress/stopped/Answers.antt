-- `progress::stopped` meets its contract. Assumes nothing.
use mathlib.Core.Path.{refl}
use Rattle.trackbox_progress.proofs.progress.stopped.Goals as goal

pub returns : goal.returns
returns c = refl
