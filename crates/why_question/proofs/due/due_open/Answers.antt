-- `due::due_open` meets its contract: no frame is open before the first record. Assumes nothing.
use borrow.Author.Tests.{eq-eqb, ne_eqb}
use Rattle.why_question.specs.Due.{due_open}
use Rattle.why_question.proofs.due.due_open.Goals as goal

pub returns-then-opened-eq0 : goal.returns-then-opened-eq0
unfolding due_open
returns-then-opened-eq0 c = rw (eq-eqb c.args.opened.frame 0 c.if-opened-eq0.true)

pub returns : goal.returns
unfolding due_open
returns c = rw (ne_eqb c.args.opened.frame 0 c.if-opened-eq0.false)
