-- `boost::duo` meets its contract: distances and boost, or nothing. Assumes nothing.
use Rattle.boost_tracker_pairs.proofs.BoostLaws.{duo-is, duo-left}
use Rattle.boost_tracker_pairs.proofs.boost.duo.Goals as goal

pub returns-then-settings-held : goal.returns-then-settings-held
returns-then-settings-held c = λ ts s.
    let a = c.args in
    let boost = c.duo_confidence_boost.ensures in
    duo-is a.settings a.frame a.corners.now ts a.held s.many a.work.now a.scores.now c.requires c.if-settings-held.true (c.mh_dist.ensures ts s) c.mh_dist.auto.out boost.answer boost.boosted

pub returns-else-settings-held : goal.returns-else-settings-held
returns-else-settings-held c = λ ts s.
    let a = c.args in
    duo-left a.settings a.frame a.corners.now ts a.held s.many a.work.now a.scores.now c.if-settings-held.false
