-- `turns::run` is safe and ends. The loop's invariant: the text keeps its length. Assumes nothing.
use mathlib.Core.Path.{refl, ◌∙◌}
use Rattle.why_io.proofs.turns.run.Goals as goal

pub turns-preserved : goal.turns-preserved
turns-preserved g c = c.turn_over-stand.auto.text ∙ c.turns.invariant

pub turns-init : goal.turns-init
turns-init g c = refl

pub shape_of-text : goal.shape_of-text
shape_of-text g c = c.turns.invariant
