-- The answers of `duo::row_max`: it meets its contract: the largest of the row as it was computed. Assumes nothing.
use Rattle.std.proofs.Common.{◌∙◌, replicate, length-take-le}
use Rattle.floats.specs.Single.{plus_zero}
use Rattle.boost_tracker_duo.proofs.CandidateLaws.{fold-row}
use Rattle.boost_tracker_duo.specs.Duo.{neg_infinity}
use Rattle.boost_tracker_duo.specs.Private.{own, own_max}
use Rattle.boost_tracker_duo.proofs.duo.row_max.Goals as goal

pub returns : goal.returns
unfolding own_max
returns c =
    let w = c.args in
    c.largest.ensures ∙ fold-row (own w.bboxes.now w.i) _ neg_infinity c.bdiou_row.ensures ∙ rw (length-take-le w.count (replicate 255 plus_zero) c.requires.1.0)
