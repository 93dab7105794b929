-- `seen::seen_in` meets its contract. Assumes nothing.
use Rattle.boost_tracker_seen.proofs.seen.seen_in.Goals as goal

pub returns : goal.returns
returns c = rw (c.score_at-twice.ensures, c.retained_before-before.ensures)
