-- `verdict::within_verdict` meets its contract: each return is the verdict where the tests are as that return found them. Assumes nothing.
use mathlib.Core.Path.{sym, ◌∙◌}
use native.Mathlib.Nat.{mul-le-mul}
use native.Mathlib.Omega.{arith}
use borrow.Author.Tests.{lt-ltb, le-ltb}
use Rattle.laws.specs.Sides.{sides_fit}
use Rattle.refusals.proofs.Laws.{few-sides}
use Rattle.assoc_verdict.specs.Verdict.{within_verdict}
use Rattle.assoc_matching.proofs.AnswerLaws.{side-low}
use Rattle.assoc_verdict.proofs.Laws.{within-rest}
use Rattle.assoc_verdict.proofs.verdict.within_verdict.Goals as goal

pub returns-then-boxes-tracks : goal.returns-then-boxes-tracks
unfolding within_verdict
returns-then-boxes-tracks c = rw c.if-boxes-tracks.true

pub returns-then-other_size : goal.returns-then-other_size
unfolding within_verdict
returns-then-other_size c = rw (c.if-boxes-tracks.false, sym c.other_size.ensures ∙ c.if-other_size.true)

pub overflow_mul-n : goal.overflow_mul-n
overflow_mul-n c = let few = side-low _ _ c.if-boxes-tracks.false c.larger-n.ensures in record { fits = sides_fit few few }

pub overflow_mul-n-2 : goal.overflow_mul-n-2
overflow_mul-n-2 c = let few = side-low _ _ c.if-boxes-tracks.false c.larger-n.ensures in omega (arith, mul-le-mul few few)

pub returns-then-work32-n : goal.returns-then-work32-n
unfolding within_verdict
returns-then-work32-n c = rw (c.if-boxes-tracks.false, sym c.other_size.ensures ∙ c.if-other_size.false, lt-ltb _ _ (rw c.larger-n.ensures at c.if-work32-n.true))

pub overflow_mul-cells : goal.overflow_mul-cells
overflow_mul-cells c = let low = few-sides _ _ c.if-boxes-tracks.false in record { fits = sides_fit low.0 low.1 }

pub returns : goal.returns
returns c =
    c.assignment_verdict.ensures
    ∙ within-rest _ _ _ _ _ _ _ _ _ _ c.if-boxes-tracks.false (sym c.other_size.ensures ∙ c.if-other_size.false) (le-ltb _ _ (rw c.larger-n.ensures at c.if-work32-n.false))

pub other_size-requires : goal.other_size-requires
other_size-requires c = few-sides _ _ c.if-boxes-tracks.false
