-- The answers of `dlo::distance_similarity`: it meets its contract: the routine's matrix, or nothing. Assumes nothing.
use Rattle.std.proofs.Common.{◌∙◌}
use Rattle.boost_tracker_boosts.proofs.OneRow.{matrix_filled}
use Rattle.boost_tracker_dlo.proofs.Verdicts.{accepted-cells}
use Rattle.boost_tracker_dlo.specs.Private.{mhd_left}
use Rattle.floats.specs.Single.{one}
use Rattle.assoc_similarity.specs.Mahalanobis.{mh_dist_similarity}
use Rattle.boost_tracker_dlo.proofs.dlo.distance_similarity.Goals as goal

pub returns-then-rich : goal.returns-then-rich
unfolding mhd_left
returns-then-rich c =
    let w = c.args in
    rw c.if-rich.true
    (matrix_filled (mh_dist_similarity w.distance.now one w.boxes w.tracks) w.boxes w.tracks w.distance.now (c.mh_dist_similarity_over.ensures.answer ∙ accepted-cells _ _ _ c.requires) c.mh_dist_similarity_over.ensures.cells)

pub returns-else-rich : goal.returns-else-rich
unfolding mhd_left
returns-else-rich c = rw c.if-rich.false
