-- `due::next_due` meets its contract: an empty frame comes first. Assumes nothing.
use Rattle.why_question.proofs.DecideLaws.{empty-due, next-due, end-due}
use Rattle.why_question.proofs.due.next_due.Goals as goal

pub returns-then-empty-gt0 : goal.returns-then-empty-gt0
returns-then-empty-gt0 c = empty-due c.args.feed c.args.item c.if-empty-gt0.true c.saturating_sub.ensures

pub returns-in-Record : goal.returns-in-Record
returns-in-Record c =
    next-due c.args.feed c.if-empty-gt0.false c.in-Record.is c.judge.ensures c.due_next.ensures

pub returns-in-End : goal.returns-in-End
returns-in-End c =
    end-due c.args.feed c.if-empty-gt0.false c.in-End.is c.close.ensures c.due_end.ensures
