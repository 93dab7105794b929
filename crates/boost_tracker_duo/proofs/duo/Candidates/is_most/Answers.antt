-- The answers of `duo::Candidates::is_most`: it meets its contract: the candidate's score against the largest of its row's args_tmp and itself. Assumes nothing.
use Rattle.std.proofs.Common.{replicate, length-take-le}
use Rattle.floats.specs.Single.{plus_zero}
use Rattle.boost_tracker_duo.proofs.CandidateLaws.{conf-row-is}
use Rattle.boost_tracker_duo.specs.Private.{most_of, own}
use Rattle.boost_tracker_duo.proofs.duo.Candidates.is_most.Goals as goal

pub returns : goal.returns
unfolding most_of
returns c =
    let w = c.args.self in
    rw (c.max.ensures, c.conf_row.ensures, conf-row-is (own w.corners.now c.args.i) _ w.max.now w.boxes.now w.scores.now c.bdiou_row.ensures (length-take-le _ (replicate 255 plus_zero) w.few))
