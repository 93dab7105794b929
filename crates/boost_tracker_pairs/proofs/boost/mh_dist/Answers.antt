-- `boost::mh_dist` meets its contract: the sizes fit. Assumes nothing.
use Rattle.std.proofs.Common.{rules, ◌∙◌}
use Rattle.boost_tracker_pairs.proofs.BoostLaws.{states-accepted, distances_are}
use Rattle.boost_tracker_pairs.proofs.boost.mh_dist.Goals as goal

pub unwrap-requires : goal.unwrap-requires
unwrap-requires c =
    let a = c.args in
    rw (c.get_mh_dist_matrix.ensures.answer ∙ states-accepted a.corners.now a.boxes a.held a.x.now a.sigma.now a.out.now c.requires) (search rules)

pub returns : goal.returns
returns c = λ ts s.
    let a = c.args in
    let matrix = c.get_mh_dist_matrix.ensures in
    distances_are a.corners.now a.boxes a.held a.x.now a.sigma.now a.out.now c.requires matrix.answer matrix.cells ts s
