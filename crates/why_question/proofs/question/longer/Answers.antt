-- `question::longer` meets its contract. Assumes nothing.
use native.Mathlib.Omega.{arith}
use Rattle.why_question.specs.Question.{longer}
use Rattle.why_question.proofs.NumberLaws.{longer-low}
use Rattle.why_question.proofs.question.longer.Goals as goal

pub returns-then-b-n : goal.returns-then-b-n
unfolding longer
returns-then-b-n c = rw c.if-b-n.true

pub returns : goal.returns
unfolding longer
returns c = rw c.if-b-n.false

pub overflow_mul-result : goal.overflow_mul-result
overflow_mul-result c = record { fits = omega (arith, longer-low c.args.n c.args.b c.if-b-n.false) }

pub overflow_sub-result : goal.overflow_sub-result
overflow_sub-result c = omega (arith, longer-low c.args.n c.args.b c.if-b-n.false)

pub overflow_add-result : goal.overflow_add-result
overflow_add-result c = record { fits = omega (arith, longer-low c.args.n c.args.b c.if-b-n.false) }
