-- `feed::hold_turn` meets its contract: a record that is taken is stored. Assumes nothing.
use Rattle.trackbox_feed.proofs.feed.hold_turn.Goals as goal

pub returns-in-Empty : goal.returns-in-Empty
returns-in-Empty c = rw c.in-Empty.is

pub returns-in-Same : goal.returns-in-Same
returns-in-Same c =
    rw c.in-Same.is c.store.ensures

pub returns-in-Later : goal.returns-in-Later
returns-in-Later c =
    rw c.in-Later.is c.hold_first.ensures

pub returns-in-Last : goal.returns-in-Last
returns-in-Last c = rw c.in-Last.is
