-- `progress::item` meets its contract: a record of the first bytes is that of the whole. Assumes nothing.
use mathlib.Core.Path.{sym, ◌∙◌}
use Rattle.trackbox_progress.proofs.ProgressLaws.{record_is, end_is}
use Rattle.trackbox_progress.proofs.progress.item.Goals as goal

pub returns-in-Some : goal.returns-in-Some
returns-in-Some c = record_is _ _ _ c.requires (sym c.read_box.ensures ∙ c.in-Some.is)

pub returns-in-None : goal.returns-in-None
returns-in-None c = end_is _ _ _ c.requires (sym c.read_box.ensures ∙ c.in-None.is)
