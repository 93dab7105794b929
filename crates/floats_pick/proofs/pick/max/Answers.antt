-- `floats_pick::pick::max` meets its contract. Assumes nothing.
use Rattle.floats_pick.specs.Pick.{larger}
use Rattle.floats_pick.proofs.pick.max.Goals as goal

pub returns : goal.returns
unfolding larger
returns c = c.chosen.ensures
