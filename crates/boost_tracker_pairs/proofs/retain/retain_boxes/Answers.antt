-- `retain::retain_boxes` meets its contract. The loop's invariant: of the boxes before i the corners of the retained are in the front, w of them. Assumes nothing.
use mathlib.Core.Path.{refl}
use native.Mathlib.Omega.{arith}
use Rattle.laws.specs.Kept.{keep_start, keep_on, keep_end}
use Rattle.boost_tracker_definition.specs.Update.{remain_inds}
use Rattle.boost_tracker_pairs.proofs.retain.retain_boxes.Goals as goal

pub keep_box-w-requires : goal.keep_box-w-requires
keep_box-w-requires c =
    let w = c.loop-i.invariant in
    (omega (arith, c.loop-i-test.true, c.requires.0), omega (arith, c.loop-i-test.true, w.few, w.same, c.requires.0, c.requires.1))

pub loop-i-preserved : goal.loop-i-preserved
loop-i-preserved c = keep_on _ _ _ _ _ _ (λ _. refl) c.loop-i.invariant c.loop-i-test.true c.keep_box-w.ensures.count c.keep_box-w.ensures.cells

pub returns : goal.returns
unfolding remain_inds
returns c = let e = keep_end _ _ _ _ _ _ c.loop-i.invariant c.loop-i-test.false in record { count = e.0; cells = e.1 }

pub loop-i-init : goal.loop-i-init
loop-i-init c = keep_start _ _ _ _ _ _ (omega (arith, c.requires.0, c.requires.1))

pub offset_bounds-scores-i : goal.offset_bounds-scores-i
offset_bounds-scores-i c = omega (arith, c.loop-i-test.true)

pub bounds-scores-i : goal.bounds-scores-i
bounds-scores-i c = omega (arith, c.loop-i-test.true)
