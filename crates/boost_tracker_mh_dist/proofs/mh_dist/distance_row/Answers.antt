-- The answers of `mh_dist::distance_row`: it meets its contract. Its invariant is in Invariants.antt. Assumes nothing.
use mathlib.Core.Path.{refl}
use native.Mathlib.Nat.{le_refl}
use Rattle.laws.specs.Tab.{fill_on, fill_start, fill_whole}
use Rattle.boost_tracker_mh_dist.proofs.mh_dist.distance_row.Goals as goal

pub loop-j-preserved : goal.loop-j-preserved
loop-j-preserved c = fill_on _ _ _ c.loop-j.invariant c.loop-j-test.true (le_refl _) c.distance.ensures

pub loop-j-init : goal.loop-j-init
loop-j-init c = fill_start _ _ _

pub returns : goal.returns
returns c = fill_whole _ _ _ c.loop-j.invariant c.loop-j-test.false refl
