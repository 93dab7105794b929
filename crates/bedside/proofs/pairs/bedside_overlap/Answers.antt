-- `bedside::pairs::bedside_overlap` meets its contract: the overlap of the two boxes that four floats each are. Assumes nothing.
use mathlib.Core.Path.{◌∙◌}
use Rattle.bedside.proofs.pairs.bedside_overlap.Goals as goal

pub returns : goal.returns
returns c = c.overlap.ensures ∙ rw (c.bounding_box-trk.ensures, c.bounding_box-det.ensures)
