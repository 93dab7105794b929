-- `matching::partner_verdict` meets its contract. Assumes nothing.
use Rattle.std.proofs.Common.{le-ltb, lt-ltb}
use Rattle.laws.specs.Sides.{sides_fit}
use Rattle.refusals.proofs.Laws.{few-sides}
use Rattle.assoc_matching.specs.Answers.{partner_verdict}
use Rattle.assoc_matching.proofs.AnswerLaws.{side-low}
use Rattle.assoc_matching.proofs.matching.partner_verdict.Goals as goal

pub returns-then-boxes-tracks : goal.returns-then-boxes-tracks
unfolding partner_verdict
returns-then-boxes-tracks c = rw c.if-boxes-tracks.true

pub overflow_mul-boxes : goal.overflow_mul-boxes
overflow_mul-boxes c = let low = few-sides _ _ c.if-boxes-tracks.false in record { fits = sides_fit low.0 low.1 }

pub returns-then-costs-boxes : goal.returns-then-costs-boxes
unfolding partner_verdict
returns-then-costs-boxes c = rw (c.if-boxes-tracks.false, rw c.larger-n.ensures at c.if-costs-boxes.true)

pub overflow_mul-n : goal.overflow_mul-n
overflow_mul-n c = let few = side-low _ _ c.if-boxes-tracks.false c.larger-n.ensures in record { fits = sides_fit few few }

pub returns-then-work-n : goal.returns-then-work-n
unfolding partner_verdict
returns-then-work-n c =
    let side = c.larger-n.ensures in
    rw (c.if-boxes-tracks.false, rw side at c.if-costs-boxes.false, lt-ltb _ _ (rw side at c.if-work-n.true))

pub returns : goal.returns
unfolding partner_verdict
returns c =
    let side = c.larger-n.ensures in
    rw (c.if-boxes-tracks.false, rw side at c.if-costs-boxes.false, le-ltb _ _ (rw side at c.if-work-n.false))
