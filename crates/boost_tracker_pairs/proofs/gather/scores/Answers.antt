-- `gather::scores` meets its contract. The loop's invariant: the scores of the first i objects are stored, and the others as they were. Assumes nothing.
use native.Mathlib.Nat.{le_refl}
use native.Mathlib.Omega.{arith}
use mathlib.Core.Path.{◌∙◌, refl, ap}
use Rattle.laws.specs.Tab.{tab, fill_on, fill_start, fill_whole}
use Rattle.boost_tracker_definition.specs.Update.{scores}
use Rattle.boost_tracker_pairs.proofs.gather.scores.Goals as goal

pub loop-i-preserved : goal.loop-i-preserved
loop-i-preserved c = fill_on _ _ _ c.loop-i.invariant (omega (arith, c.loop-i-test.true, c.loop-i.invariant.same)) (le_refl _) refl

pub returns : goal.returns
unfolding scores
returns c = fill_whole _ _ _ c.loop-i.invariant (omega (arith, c.loop-i-test.false, c.loop-i.invariant.same)) refl ∙ ap (tab _) c.requires

pub loop-i-init : goal.loop-i-init
loop-i-init c = fill_start _ _ _

pub overflow_mul-score : goal.overflow_mul-score
overflow_mul-score c = omega (arith, c.loop-i-test.true, c.loop-i.invariant.same, c.requires)

pub overflow_add-score : goal.overflow_add-score
overflow_add-score c = omega (arith, c.loop-i-test.true, c.loop-i.invariant.same, c.requires)

pub offset_bounds-objects-i : goal.offset_bounds-objects-i
offset_bounds-objects-i c = omega (arith, c.loop-i-test.true, c.loop-i.invariant.same, c.requires)

pub bounds-objects-i : goal.bounds-objects-i
bounds-objects-i c = omega (arith, c.loop-i-test.true, c.loop-i.invariant.same, c.requires)
