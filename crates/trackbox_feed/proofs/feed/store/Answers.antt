-- `feed::store` meets its contract: the box is stored, and then its label. Assumes nothing.
use Rattle.trackbox_feed.proofs.CallLaws.{both}
use Rattle.trackbox_feed.proofs.feed.store.Goals as goal

pub returns : goal.returns
returns c =
    both c.hold.ensures c.hold_label.ensures
