-- The invariant of `rows::largest`: `most` is the largest of `start` and the cells before the one at hand. Assumes nothing.
use lib.Ieee.{nan}
use lib.ListN.{get_or, length}
use Rattle.floats_pick.specs.Pick.{larger}
use Rattle.laws.specs.Folding.{Folding}
use Rattle.boost_tracker_boosts.proofs.rows.largest.Given as goal

abbrev pub invariant-loop-cell : goal.invariant-loop-cell
invariant-loop-cell l = Folding (λ m k. larger m (get_or l.row k nan)) l.start (length l.row) l.cell-index l.most
