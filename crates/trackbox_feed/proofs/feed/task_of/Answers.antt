-- `feed::task_of` meets its contract: each arm is the definition's case. Assumes nothing.
use Rattle.trackbox_feed.proofs.feed.task_of.Goals as goal

pub returns-in-Later : goal.returns-in-Later
returns-in-Later c = rw c.in-Later.is c.open_task.ensures

pub returns-in-Last : goal.returns-in-Last
returns-in-Last c = rw c.in-Last.is c.open_task-in-Last.ensures
