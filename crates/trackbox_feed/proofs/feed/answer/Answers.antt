-- `feed::answer` meets its contract: each arm is the definition's case. Assumes nothing.
use Rattle.trackbox_feed.proofs.feed.answer.Goals as goal

pub returns-in-Empty : goal.returns-in-Empty
returns-in-Empty c = rw c.in-Empty.is c.again.ensures

pub returns-in-Same : goal.returns-in-Same
returns-in-Same c = rw c.in-Same.is c.later.ensures

pub returns-in-Later : goal.returns-in-Later
returns-in-Later c = rw c.in-Later.is c.later-in-Later.ensures
