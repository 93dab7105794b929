-- `batch::shapes` meets its contract: an accepted call has the sizes of its matrix, the closure gives exponents, and their exponentials are the matrix. Assumes nothing.
use mathlib.Core.Path.{sym, ◌∙◌}
use Rattle.std.proofs.Common.{rules}
use lib.Ieee.{nan}
use Rattle.cells.proofs.RowLaws.{filled_grid}
use Rattle.assoc_sizes.proofs.Verdicts.{ready}
use Rattle.assoc_similarity.specs.Overlap.{box_at}
use Rattle.assoc_similarity.proofs.ShapeLaws.{exps_of}
use Rattle.assoc_similarity.proofs.batch.shapes.Goals as goal

pub returns-clause-cells : goal.returns-clause-cells
returns-clause-cells g c = λ f e.
    let fit = ready _ _ _ _ _ (sym c.of_corners.ensures ∙ c.in_ok-of_corners.was) in
    let a = c.args in
    c.exponentials.ensures ∙ exps_of _ _ _ _ (filled_grid nan (λ i j. f (box_at a.detections.now i) (box_at a.corners.now j)) c.rows.ensures fit.room (λ i j hi hj k. e _ _ _ (search rules)))
