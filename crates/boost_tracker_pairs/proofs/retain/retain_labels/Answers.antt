-- `retain::retain_labels` meets its contract. The loop's invariant: of the boxes before i the labels of the retained are in the front, w of them. Assumes nothing.
use native.Mathlib.Omega.{arith}
use Rattle.boost_tracker_pairs.proofs.RetainLaws.{label_start, label_on, label_end}
use Rattle.boost_tracker_pairs.proofs.retain.retain_labels.Goals as goal

pub keep_label-w-requires : goal.keep_label-w-requires
keep_label-w-requires c =
    let inv = c.loop-i.invariant in
    omega (arith, c.loop-i-test.true, inv.few, inv.pushed.same, c.requires)

pub loop-i-preserved : goal.loop-i-preserved
loop-i-preserved c =
    let kept = c.keep_label-w.ensures in
    label_on _ _ _ _ c.loop-i.invariant c.requires c.loop-i-test.true c.label_at-label.ensures kept.count kept.cells

pub loop-i-init : goal.loop-i-init
loop-i-init c = label_start _ _ _ _

pub offset_bounds-scores-i : goal.offset_bounds-scores-i
offset_bounds-scores-i c = omega (arith, c.loop-i-test.true)

pub bounds-scores-i : goal.bounds-scores-i
bounds-scores-i c = omega (arith, c.loop-i-test.true)

pub returns : goal.returns
returns c = label_end _ _ _ _ c.loop-i.invariant c.loop-i-test.false
