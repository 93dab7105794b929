-- The answers of `duo::boost`: it meets its contract: corners, maxima, marks and stores one after the other are the definition. Assumes nothing.
use Rattle.std.proofs.Common.{◌∙◌, false, replicate, length-take-le}
use Rattle.floats.specs.Single.{plus_zero}
use Rattle.boost_tracker_duo.proofs.CandidateLaws.{masked-is}
use Rattle.boost_tracker_duo.proofs.duo.boost.Goals as goal

pub returns : goal.returns
returns c =
    let w = c.args in
    c.raise.ensures
    ∙ masked-is w.detections.now w.scores.now w.candidates.now w.thresh _ _ _ _ _ c.requires c.boost_bboxes.ensures
    (c.bdiou_max.ensures ∙ rw (length-take-le _ (replicate 255 plus_zero) c.requires.few)) (c.mark_remaining.ensures ∙ rw (length-take-le _ (replicate 255 false) c.requires.few))
