-- `first_unlabelled` meets its contract: the loop leaves at the first label that is none of the three.
use Rattle.std.proofs.Common.{◌≡◌, sym, ap, ◌∙◌, not, arith}
use Rattle.laws.specs.Scan.{scan-next, scan-found, scan-done}
use Rattle.labels.specs.Label.{is_label}
use Rattle.labels.proofs.first_unlabelled.Goals as goal

pub returns-then-not-is_label : goal.returns-then-not-is_label
returns-then-not-is_label c =
    scan-found _ _ c.loop-i.invariant c.loop-i-test.true (ap not (c.is_label.ensures ∙ ap is_label c.label_at.ensures)) (ap not c.if-not-is_label.true)

pub loop-i-preserved : goal.loop-i-preserved
loop-i-preserved c =
    scan-next _ _ c.loop-i.invariant c.loop-i-test.true (ap not (c.is_label.ensures ∙ ap is_label c.label_at.ensures)) (ap not c.if-not-is_label.false)

pub returns : goal.returns
returns c =
    let e : c.loop-i.i ≡ c.args.n = omega (arith, c.loop-i-test.false, c.loop-i.auto.i-end) in
    sym e ∙ scan-done _ _ c.loop-i.invariant c.loop-i-test.false
