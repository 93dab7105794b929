-- `corrections::start_unmatched` meets its contract. The loop's invariant: the first k boxes have their tracks behind those held, with the ids after `last` up to `id`. Assumes nothing.
use Rattle.boost_tracker_follow.proofs.FollowLaws.{Starting}
use Rattle.boost_tracker_follow.proofs.corrections.start_unmatched.Given as goal

abbrev pub invariant-loop-k : goal.invariant-loop-k
invariant-loop-k l = Starting l.last l.corners l.unmatched l.held l.initial.floats l.initial.counters l.id l.k l.floats l.counters
