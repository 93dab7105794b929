-- `matching::match_verdict` meets its contract. Assumes nothing.
use Rattle.std.proofs.Common.{eq-eqb, ne_eqb}
use Rattle.laws.specs.Sides.{sides_fit}
use Rattle.refusals.proofs.Laws.{few-sides}
use Rattle.assoc_matching.specs.Answers.{match_verdict}
use Rattle.assoc_matching.proofs.AnswerLaws.{side-low}
use Rattle.assoc_matching.proofs.matching.match_verdict.Goals as goal

pub returns-then-boxes-tracks : goal.returns-then-boxes-tracks
unfolding match_verdict
returns-then-boxes-tracks c = rw c.if-boxes-tracks.true

pub overflow_mul-boxes : goal.overflow_mul-boxes
overflow_mul-boxes c = let low = few-sides _ _ c.if-boxes-tracks.false in record { fits = sides_fit low.0 low.1 }

pub returns-then-costs-boxes : goal.returns-then-costs-boxes
unfolding match_verdict
returns-then-costs-boxes c = rw (c.if-boxes-tracks.false, ne_eqb _ _ c.if-costs-boxes.true)

pub overflow_mul-n : goal.overflow_mul-n
overflow_mul-n c = let few = side-low _ _ c.if-boxes-tracks.false c.larger-n.ensures in record { fits = sides_fit few few }

pub returns-then-pairs-few : goal.returns-then-pairs-few
unfolding match_verdict
returns-then-pairs-few c = rw (c.if-boxes-tracks.false, eq-eqb _ _ c.if-costs-boxes.false, rw (c.smaller-few.ensures, c.larger-n.ensures) at c.if-pairs-few.true)

pub returns : goal.returns
unfolding match_verdict
returns c = rw (c.if-boxes-tracks.false, eq-eqb _ _ c.if-costs-boxes.false, rw (c.smaller-few.ensures, c.larger-n.ensures) at c.if-pairs-few.false)
