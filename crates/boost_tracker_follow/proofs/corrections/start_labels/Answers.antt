-- `corrections::start_labels` meets its contract: the labels of the boxes are stored behind those held. Assumes nothing.
use Rattle.boost_tracker_follow.proofs.FollowLaws.{labels_stored}
use Rattle.boost_tracker_follow.proofs.corrections.start_labels.Goals as goal

pub returns : goal.returns
returns c =
    let a = c.args in
    labels_stored a.labels.now a.held a.box_labels.now a.unmatched.now c.put_labels.ensures
