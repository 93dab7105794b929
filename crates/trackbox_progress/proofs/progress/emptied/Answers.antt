-- `progress::emptied` meets its contract. Assumes nothing.
use Rattle.trackbox_progress.proofs.ProgressLaws.{not_written, was_written}
use Rattle.trackbox_progress.proofs.progress.emptied.Goals as goal

pub returns-else-written : goal.returns-else-written
returns-else-written c = not_written c.args.p c.args.written c.if-written.false c.stopped.ensures

pub returns-then-written : goal.returns-then-written
returns-then-written c = was_written c.args.p c.args.written c.if-written.true
