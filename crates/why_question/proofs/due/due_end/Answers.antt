-- `due::due_end` meets its contract: each arm is the definition's case. Assumes nothing.
use Rattle.why_question.proofs.due.due_end.Goals as goal

pub returns-in-Ok : goal.returns-in-Ok
returns-in-Ok c = rw c.in-Ok.is c.due_open.ensures

pub returns-in-Err : goal.returns-in-Err
returns-in-Err c = rw c.in-Err.is
