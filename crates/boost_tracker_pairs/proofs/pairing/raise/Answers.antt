-- `pairing::raise` meets its contract: what is gathered of boxes and tracks, and the boosts of it. Assumes nothing.
use mathlib.Core.Path.{◌∙◌}
use Rattle.boost_tracker_verdict.specs.Boxes.{boxes_with}
use Rattle.boost_tracker_pairs.specs.Private.{predicted_in}
use Rattle.boost_tracker_pairs.proofs.PairLaws.{boost_room, raised_is}
use Rattle.boost_tracker_pairs.proofs.pairing.raise.Goals as goal

pub boost-requires : goal.boost-requires
boost-requires c =
    let lent = c.requires.lent in
    let gathered = c.gather in
    let room = boost_room c.requires.sizes
    (record {
      corners_fit = gathered.auto.corners ∙ lent.0.corners_fit;
      scores_fit = gathered.auto.probs ∙ lent.0.scores_fit;
      trks_fit = gathered.auto.trks ∙ lent.0.trks_fit;
      confs_fit = gathered.auto.confs ∙ lent.0.confs_fit;
    })
    (record { x_fits = gathered.auto.x ∙ lent.1.x_fits; sigma-fits = gathered.auto.sigma ∙ lent.1.sigma-fits }) in
    record { sizes = room.0; tracks = room.1; low = c.requires.low }

pub returns : goal.returns
returns c =
    let a = c.args in
    let P = predicted_in a.floats.now a.counters.now a.held in
    let gathered = c.gather.ensures in
    raised_is a.settings a.frame (boxes_with a.objects.now a.box_labels.now) P a.labels.now a.held a.seen gathered.boxes.0 gathered.boxes.1 gathered.tracks (c.boost.ensures gathered.tracks.states)
