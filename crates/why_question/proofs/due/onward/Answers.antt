-- `due::onward` meets its contract: each arm is the definition's case. Assumes nothing.
use Rattle.why_question.proofs.due.onward.Goals as goal

pub returns-in_default : goal.returns-in_default
returns-in_default c = rw c.in_default.is

pub returns-then-feed-rest : goal.returns-then-feed-rest
returns-then-feed-rest c = rw (c.in-End.is, c.if-feed-rest.true)

pub returns : goal.returns
returns c = rw (c.in-End.is, c.if-feed-rest.false)
