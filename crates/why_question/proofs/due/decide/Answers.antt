-- `due::decide` meets its contract: the frame asked about is explained where it is due. Assumes nothing.
use Rattle.why_question.proofs.DecideLaws.{decide-none, decide-here, decide_other}
use Rattle.why_question.proofs.due.decide.Goals as goal

pub returns-in_default : goal.returns-in_default
returns-in_default c =
    let a = c.args in
    decide-none a.frame a.feed a.item c.next_due.ensures c.in_default.is c.onward.ensures

pub returns-then-due-frame : goal.returns-then-due-frame
returns-then-due-frame c =
    let a = c.args in
    decide-here a.frame a.feed a.item c.next_due.ensures c.in-Some.is c.if-due-frame.true

pub returns : goal.returns
returns c =
    let a = c.args in
    decide_other a.frame a.feed a.item c.next_due.ensures c.in-Some.is c.if-due-frame.false c.onward-2.ensures
