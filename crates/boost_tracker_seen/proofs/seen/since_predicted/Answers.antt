-- `seen::since_predicted` meets its contract: a prediction adds one. Assumes nothing.
use Rattle.std.proofs.Common.{refl}
use Rattle.strack.specs.Strack.{predict}
use Rattle.boost_tracker_seen.proofs.seen.since_predicted.Goals as goal

pub returns : goal.returns
unfolding predict
returns c = refl
