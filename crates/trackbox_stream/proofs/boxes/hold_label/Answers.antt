-- `boxes::hold_label` meets its contract: the byte is stored, where there is one. Assumes nothing.
use Rattle.trackbox_stream.proofs.Returns.{label_stored, label_not_stored}
use Rattle.trackbox_stream.proofs.boxes.hold_label.Goals as goal

pub returns-then-k-labels : goal.returns-then-k-labels
returns-then-k-labels c = let a = c.args in label_stored a.r a.k a.labels.now c.if-k-labels.true

pub returns-else-k-labels : goal.returns-else-k-labels
returns-else-k-labels c = let a = c.args in label_not_stored a.r a.k a.labels.now c.if-k-labels.false
