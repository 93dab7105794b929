-- `feed::open_task` meets its contract: no frame is open before the first record. Assumes nothing.
use borrow.Author.Tests.{eq-eqb, ne_eqb}
use Rattle.trackbox_feed.proofs.feed.open_task.Goals as goal

pub returns-then-opened-eq0 : goal.returns-then-opened-eq0
returns-then-opened-eq0 c = rw (eq-eqb c.args.opened.frame 0 c.if-opened-eq0.true)

pub returns : goal.returns
returns c = rw (ne_eqb c.args.opened.frame 0 c.if-opened-eq0.false)
