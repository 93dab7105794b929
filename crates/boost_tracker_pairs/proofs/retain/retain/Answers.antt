-- `retain::retain` meets its contract: the corners, the labels, then the scores. Assumes nothing.
use native.Mathlib.Omega.{arith}
use Rattle.boost_tracker_pairs.proofs.RetainLaws.{retained-all}
use Rattle.boost_tracker_pairs.proofs.retain.retain.Goals as goal

pub retain_labels-requires : goal.retain_labels-requires
retain_labels-requires c = let p = c.requires in omega (arith, p.0, p.1.1)

pub returns : goal.returns
returns c =
    let a = c.args in
    retained-all a.thresh a.objects.now a.scores.now a.corners.now a.box_labels.now a.labels.now c.retain_boxes-kept.ensures c.retain_labels.ensures c.retain_scores.ensures

pub retain_boxes-kept-requires : goal.retain_boxes-kept-requires
retain_boxes-kept-requires c = (c.requires.0, c.requires.1.0)
