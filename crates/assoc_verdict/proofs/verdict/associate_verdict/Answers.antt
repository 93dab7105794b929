-- `verdict::associate_verdict` meets its contract: the sizes' refusal, or what the labels say. Assumes nothing.
use mathlib.Core.Path.{◌≡◌, sym, ◌∙◌}
use Rattle.std.proofs.Common.{Err, rules}
use Rattle.assoc_verdict.specs.Verdict.{associate_verdict}
use Rattle.assoc_verdict.proofs.verdict.associate_verdict.Goals as goal

pub returns-in_err-associate_sizes : goal.returns-in_err-associate_sizes
unfolding associate_verdict
returns-in_err-associate_sizes c =
    let e : c.from_residual.result ≡ Err c.in_err-associate_sizes.field-0.0 = search rules in
    rw e (rw (sym c.associate_sizes.ensures ∙ c.in_err-associate_sizes.was))

pub returns-then-bad : goal.returns-then-bad
unfolding associate_verdict
returns-then-bad c = rw (sym c.associate_sizes.ensures ∙ c.in_ok-associate_sizes.was, sym c.unlabelled.ensures, sym c.unlabelled-2.ensures, c.if-bad.true)

pub returns : goal.returns
unfolding associate_verdict
returns c = rw (sym c.associate_sizes.ensures ∙ c.in_ok-associate_sizes.was, sym c.unlabelled.ensures, sym c.unlabelled-2.ensures, c.if-bad.false)
