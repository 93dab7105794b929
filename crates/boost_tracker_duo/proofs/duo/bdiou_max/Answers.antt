-- The answers of `duo::bdiou_max`: it meets its contract. Its invariant is in Invariants.antt. Assumes nothing.
use mathlib.Core.Path.{refl}
use native.Mathlib.Nat.{le_refl}
use Rattle.laws.specs.Tab.{fill_on, fill_start, fill_whole}
use Rattle.boost_tracker_duo.proofs.duo.bdiou_max.Goals as goal

pub loop-i-preserved : goal.loop-i-preserved
loop-i-preserved c = fill_on _ _ _ c.loop-i.invariant c.loop-i-test.true (le_refl _) c.row_max.ensures

pub loop-i-init : goal.loop-i-init
loop-i-init c = fill_start _ _ _

pub returns : goal.returns
returns c = fill_whole _ _ _ c.loop-i.invariant c.loop-i-test.false refl
