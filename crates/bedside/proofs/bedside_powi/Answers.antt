-- `bedside::bedside_powi` meets its contract. An i32 that is passed on stays the number it was.
-- Assumes nothing.
use mathlib.Core.Path.{ap, ◌∙◌}
use mir.Facts.{to_z-of_z}
use Rattle.floats.specs.Power.{powi}
use Rattle.bedside.proofs.bedside_powi.Goals as goal

pub returns : goal.returns
returns c = c.powi.ensures ∙ ap (powi c.args.c) (to_z-of_z c.ranges.e)
