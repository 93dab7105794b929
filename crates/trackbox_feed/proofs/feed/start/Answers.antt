-- `feed::start` meets its contract. Assumes nothing.
use Rattle.trackbox_feed.proofs.feed.start.Goals as goal

pub returns : goal.returns
returns c = rw c.start.ensures
