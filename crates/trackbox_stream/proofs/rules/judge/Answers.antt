-- `rules::judge` meets its contract: each return is the definition's case where the tests are as that return found them. Assumes nothing.
use Rattle.trackbox_stream.proofs.Returns.{back, far, later, full, same}
use Rattle.trackbox_stream.proofs.rules.judge.Goals as goal

pub returns-then-frame-previous : goal.returns-then-frame-previous
returns-then-frame-previous c = let a = c.args in back a.state _ a.frame c.nth_after-nth.ensures c.if-frame-previous.true

pub returns-then-frame-previous-gt1000 : goal.returns-then-frame-previous-gt1000
returns-then-frame-previous-gt1000 c =
    let a = c.args in
    far a.state _ a.frame c.nth_after-nth.ensures c.if-frame-previous.false c.if-frame-previous-gt1000.true

pub returns-then-previous-frame : goal.returns-then-previous-frame
returns-then-previous-frame c =
    let a = c.args in
    later a.state _ a.frame c.nth_after-nth.ensures c.if-frame-previous.false c.if-frame-previous-gt1000.false c.if-previous-frame.true _ c.opened.ensures

pub returns-then-boxes-ge64 : goal.returns-then-boxes-ge64
returns-then-boxes-ge64 c =
    let a = c.args in
    full a.state _ a.frame c.nth_after-nth.ensures c.if-frame-previous.false c.if-frame-previous-gt1000.false c.if-previous-frame.false c.if-boxes-ge64.true

pub returns : goal.returns
returns c =
    let a = c.args in
    same a.state _ a.frame c.nth_after-nth.ensures c.if-frame-previous.false c.if-frame-previous-gt1000.false c.if-previous-frame.false c.if-boxes-ge64.false _ c.more.ensures
