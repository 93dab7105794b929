-- `met::partner` meets its contract. Assumes nothing.
use mathlib.Core.Path.{◌∙◌}
use Rattle.boost_tracker_fate.proofs.met.partner.Goals as goal

pub returns : goal.returns
returns c =
    c.partner_of.ensures
    ∙ rw (c.by_labels.ensures, c.overlap.ensures, c.box_of.ensures, c.box_of-2.ensures)
