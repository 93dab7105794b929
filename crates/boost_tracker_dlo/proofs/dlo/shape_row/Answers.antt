-- The answers of `dlo::shape_row`: it meets its contract: the row of one box. Assumes nothing.
use Rattle.std.proofs.Common.{refl, ◌∙◌}
use Rattle.boost_tracker_boosts.proofs.OneRow.{one-accepted, row-filled}
use Rattle.assoc_similarity.specs.Shape.{shape_similarity_v1, shape_similarity_v2}
use Rattle.boost_tracker_dlo.proofs.dlo.shape_row.Goals as goal

pub returns-then-corrected : goal.returns-then-corrected
returns-then-corrected c =
    rw c.if-corrected.true
    (row-filled (shape_similarity_v2 c.args.det.now c.args.trks.now) _ c.args.row.now (c.shape_similarity_v2.ensures.answer ∙ one-accepted c.requires) c.shape_similarity_v2.ensures.cells refl)

pub returns-else-corrected : goal.returns-else-corrected
returns-else-corrected c =
    rw c.if-corrected.false
    (row-filled (shape_similarity_v1 c.args.det.now c.args.trks.now) _ c.args.row.now (c.shape_similarity_v1.ensures.answer ∙ one-accepted c.requires) c.shape_similarity_v1.ensures.cells refl)
