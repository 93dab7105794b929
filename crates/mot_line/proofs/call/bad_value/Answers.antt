-- `call::bad_value` meets its contract: both tests are the definition's. Assumes nothing.
use Rattle.mot_line.proofs.call.bad_value.Goals as goal

pub returns : goal.returns
returns c = rw (c.bad_frame.ensures, c.bad_box.ensures)
