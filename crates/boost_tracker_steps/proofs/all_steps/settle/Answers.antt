-- `all_steps::settle` meets its contract: where there are no pairs nothing is changed; else the table is predicted, and they are followed. Assumes nothing.
use Rattle.boost_tracker_steps.proofs.AdvanceLaws.{unsettled, settled_is}
use Rattle.boost_tracker_steps.proofs.all_steps.settle.Goals as goal

pub returns-in_default : goal.returns-in_default
returns-in_default c =
    let a = c.args in
    unsettled a.state a.corners.now a.kept_labels.now a.pair_boxes.now a.pair_tracks.now a.unmatched.now a.floats.now a.counters.now a.labels.now
    c.in_default.is c.answered.ensures

pub returns : goal.returns
returns c =
    let a = c.args in
    settled_is a.state a.corners.now a.kept_labels.now a.pair_boxes.now a.pair_tracks.now a.unmatched.now a.floats.now a.counters.now a.labels.now
    c.in-Ok.is c.predict_all.ensures c.follow.ensures c.answered-2.ensures
