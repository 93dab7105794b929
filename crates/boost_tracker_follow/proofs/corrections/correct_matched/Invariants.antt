-- `corrections::correct_matched` meets its contract. The loop's invariant: the first k pairs have corrected their tracks. Assumes nothing.
use Rattle.boost_tracker_follow.proofs.FollowLaws.{Correcting}
use Rattle.boost_tracker_follow.proofs.corrections.correct_matched.Given as goal

abbrev pub invariant-loop-k : goal.invariant-loop-k
invariant-loop-k l = Correcting l.corners l.pair_boxes l.pair_tracks l.held l.initial.floats l.initial.counters l.k l.floats l.counters
