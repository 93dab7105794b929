-- `boxes::hold` meets its contract: the part is put back whole, where there is one. Assumes nothing.
use Rattle.trackbox_stream.proofs.Returns.{stored, not_stored}
use Rattle.trackbox_stream.proofs.boxes.hold.Goals as goal

pub returns-then-k-boxes : goal.returns-then-k-boxes
returns-then-k-boxes c =
    let a = c.args in
    stored a.r a.k a.boxes.now _ c.if-k-boxes.true c.copy_from_slice.ensures.after

pub returns-else-k-boxes : goal.returns-else-k-boxes
returns-else-k-boxes c = let a = c.args in not_stored a.r a.k a.boxes.now c.if-k-boxes.false
