-- `lines::line_length` meets its contract. Assumes nothing.
use Rattle.motbox_io.proofs.Buffers.{with_feed, without-feed}
use Rattle.motbox_io.proofs.lines.line_length.Goals as goal

pub returns-then-end-n : goal.returns-then-end-n
returns-then-end-n c = with_feed c.args.rest.now c.find-end.result c.find-end.ensures.place c.if-end-n.true

pub returns : goal.returns
returns c = without-feed c.args.rest.now c.find-end.result c.find-end.ensures.place c.if-end-n.false
