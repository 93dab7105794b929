-- `floats_pick::pick::min` meets its contract. Assumes nothing.
use Rattle.floats_pick.specs.Pick.{smaller}
use Rattle.floats_pick.proofs.pick.min.Goals as goal

pub returns : goal.returns
unfolding smaller
returns c = c.chosen.ensures
