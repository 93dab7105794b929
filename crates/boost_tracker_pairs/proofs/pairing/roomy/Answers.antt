-- `pairing::roomy` meets its contract. Assumes nothing.
use mathlib.Core.Path.{refl}
use Rattle.boost_tracker_pairs.specs.Pairs.{roomy}
use Rattle.boost_tracker_pairs.proofs.pairing.roomy.Goals as goal

pub returns : goal.returns
unfolding roomy
returns c = refl
