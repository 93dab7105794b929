-- `assignment::assignment_verdict` meets its contract. Assumes nothing.
use Rattle.laws.specs.Sides.{sides_fit}
use Rattle.refusals.proofs.Laws.{few-sides}
use Rattle.assoc_matching.proofs.AnswerLaws.{side-low}
use Rattle.assoc_assignment.specs.Answers.{assignment_verdict}
use Rattle.assoc_assignment.proofs.assignment.assignment_verdict.Goals as goal

pub returns-then-boxes-tracks : goal.returns-then-boxes-tracks
unfolding assignment_verdict
returns-then-boxes-tracks c = rw c.if-boxes-tracks.true

pub overflow_mul-cells : goal.overflow_mul-cells
overflow_mul-cells c = let low = few-sides _ _ c.if-boxes-tracks.false in record { fits = sides_fit low.0 low.1 }

pub returns-then-ious-cells : goal.returns-then-ious-cells
unfolding assignment_verdict
returns-then-ious-cells c = rw (c.if-boxes-tracks.false, c.if-ious-cells.true)

pub overflow_mul-n : goal.overflow_mul-n
overflow_mul-n c = let few = side-low _ _ c.if-boxes-tracks.false c.larger-n.ensures in record { fits = sides_fit few few }

pub returns-then-short-room : goal.returns-then-short-room
unfolding assignment_verdict
returns-then-short-room c = rw (c.if-boxes-tracks.false, c.if-ious-cells.false, rw (c.smaller-few.ensures, c.larger-n.ensures) at c.if-short-room.true)

pub returns : goal.returns
unfolding assignment_verdict
returns c = rw (c.if-boxes-tracks.false, c.if-ious-cells.false, rw (c.smaller-few.ensures, c.larger-n.ensures) at c.if-short-room.false)
