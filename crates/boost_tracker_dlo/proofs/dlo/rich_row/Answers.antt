-- The answers of `dlo::rich_row`: it meets its contract. Its invariant is in Invariants.antt. Assumes nothing.
use Rattle.std.proofs.Common.{refl, le_refl}
use lib.Ieee.{nan}
use Rattle.laws.specs.Tab.{fill_ahead, fill_on, fill_start, fill_whole}
use Rattle.boost_tracker_dlo.proofs.dlo.rich_row.Goals as goal

pub loop-j-preserved : goal.loop-j-preserved
loop-j-preserved c = let inv = c.loop-j.invariant in fill_on _ _ _ inv c.loop-j-test.true (le_refl _) (rw (fill_ahead _ _ _ inv nan))

pub loop-j-init : goal.loop-j-init
loop-j-init c = fill_start _ _ _

pub returns : goal.returns
returns c = fill_whole _ _ _ c.loop-j.invariant c.loop-j-test.false refl
