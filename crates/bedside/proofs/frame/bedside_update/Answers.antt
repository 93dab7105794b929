-- `bedside::frame::bedside_update` meets its contract: the answer of `update`, in C's form. Assumes nothing.
use Rattle.bedside.proofs.FrameLaws.{update-in-c}
use Rattle.bedside.proofs.frame.bedside_update.Goals as goal

pub returns : goal.returns
returns c = update-in-c _ c.from.ensures c.update.ensures
