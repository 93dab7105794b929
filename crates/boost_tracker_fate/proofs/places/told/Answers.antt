-- `places::told` meets its contract. Assumes nothing.
use Rattle.boost_tracker_fate.proofs.places.told.Goals as goal

pub returns : goal.returns
returns c = rw c.fate_of.ensures
