-- `met::paired_with` meets its contract. Assumes nothing.
use mathlib.Core.Path.{◌∙◌}
use native.Mathlib.Omega.{arith}
use Rattle.boost_tracker_pairs.proofs.GatherLaws.{xyxy_here}
use Rattle.boost_tracker_why.proofs.WhyLaws.{met_is}
use Rattle.boost_tracker_why.proofs.met.paired_with.Goals as goal

pub returns : goal.returns
returns c =
    let a = c.args in
    met_is a.floats.now a.counters.now a.labels.now a.held a.boxes.now a.box_labels.now a.b a.t c.load-read.ensures c.predict-track.ensures
    c.label_at.ensures c.label_at-2.ensures c.same_label-same.ensures
    (c.xyxy_at.ensures ∙ xyxy_here a.boxes.now a.b (omega (arith, c.requires))) c.get_state.ensures c.partner.ensures
