-- `retain::keep_box` meets its contract. Assumes nothing.
use Prim.Native.Nat.{◌*◌}
use mathlib.Core.Path.{◌∙◌, ap, refl}
use Rattle.boost_tracker_definition.specs.Update.{corners_of}
use Rattle.boost_tracker_pairs.proofs.RetainLaws.{four_stored}
use Rattle.boost_tracker_pairs.proofs.retain.keep_box.Goals as goal

pub returns-then-score-thresh : goal.returns-then-score-thresh
returns-then-score-thresh c = let a = c.args in rw c.if-score-thresh.true (record { count = refl; cells = four_stored a.corners.now (a.w * 4) (c.put_four.ensures ∙ c.of_corners.ensures ∙ ap corners_of c.xyxy_of.ensures) })

pub returns : goal.returns
returns c = rw c.if-score-thresh.false (record { count = refl; cells = refl })
