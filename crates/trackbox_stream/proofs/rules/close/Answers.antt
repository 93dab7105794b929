-- `rules::close` meets its contract: each return is the definition's case where the test is as that return found it. Assumes nothing.
use Rattle.trackbox_stream.proofs.Returns.{cut, clean}
use Rattle.trackbox_stream.proofs.rules.close.Goals as goal

pub returns-then-rest-gt0 : goal.returns-then-rest-gt0
returns-then-rest-gt0 c = let a = c.args in cut a.state _ c.nth_after-nth.ensures a.rest c.if-rest-gt0.true

pub returns : goal.returns
returns c = clean _ c.args.rest c.if-rest-gt0.false
