-- `corrections::put_labels` meets its contract. The loop's invariant: the labels of the first k boxes are stored, and the others as they were. Assumes nothing.
use mathlib.Core.Path.{◌∙◌, refl, sym}
use native.Mathlib.Nat.{le_of_eq}
use native.Mathlib.Omega.{arith}
use lib.ListN.{length}
use Rattle.laws.specs.Tab.{tab-map, fill_on, fill_start, fill_whole}
use Rattle.labels.specs.Label.{label_at}
use Rattle.boost_tracker_definition.specs.Plain.{started_labels}
use Rattle.boost_tracker_follow.proofs.corrections.put_labels.Goals as goal

pub loop-k-preserved : goal.loop-k-preserved
loop-k-preserved c =
    fill_on _ _ _ c.loop-k.invariant c.loop-k-test.true (le_of_eq (sym c.requires)) c.label_at.ensures

pub returns : goal.returns
unfolding started_labels
returns c =
    let a = c.args in
    fill_whole _ _ _ c.loop-k.invariant c.loop-k-test.false c.requires ∙ tab-map (label_at a.box_labels.now) a.list.now (length a.list.now) 0 refl

pub loop-k-init : goal.loop-k-init
loop-k-init c = fill_start _ _ _

pub bounds-out-k : goal.bounds-out-k
bounds-out-k c = omega (arith, c.loop-k-test.true, c.loop-k.invariant.same, c.requires)
