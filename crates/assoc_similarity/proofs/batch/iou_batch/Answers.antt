-- `batch::iou_batch` meets its contract: an accepted call has the sizes of its matrix, and each cell is what the closure says. Assumes nothing.
use mathlib.Core.Path.{sym, ◌∙◌}
use Rattle.std.proofs.Common.{rules}
use lib.Ieee.{nan}
use Rattle.cells.proofs.RowLaws.{filled_grid}
use Rattle.assoc_sizes.proofs.Verdicts.{ready}
use Rattle.assoc_similarity.proofs.batch.iou_batch.Goals as goal

pub returns-clause-cells : goal.returns-clause-cells
returns-clause-cells c =
    let fit = ready _ _ _ _ _ (sym c.of_corners.ensures ∙ c.in_ok-of_corners.was) in
    filled_grid nan _ c.rows.ensures fit.room (λ i j hi hj k. search rules)
