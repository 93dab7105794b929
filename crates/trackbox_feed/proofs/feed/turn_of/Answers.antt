-- `feed::turn_of` meets its contract: an empty frame comes first. Assumes nothing.
use mathlib.Core.Path.{◌≡◌, ap}
use borrow.Author.Tests.{lt-ltb}
use Rattle.std.proofs.Common.{Ok, Err, rules}
use Rattle.trackbox_feed.proofs.CallLaws.{next_turn}
use Rattle.trackbox_feed.proofs.feed.turn_of.Goals as goal

pub returns-then-feed-gt0 : goal.returns-then-feed-gt0
returns-then-feed-gt0 c = rw (lt-ltb 0 c.args.feed.empty c.if-feed-gt0.true)

pub returns-in_ok-judge-in-Record : goal.returns-in_ok-judge-in-Record
returns-in_ok-judge-in-Record c =
    next_turn c.args.feed c.if-feed-gt0.false c.in-Record.is c.judge.ensures (rw c.in_ok-judge-in-Record.was (ap Ok c.of_next.ensures))

pub returns-in_err-judge-in-Record : goal.returns-in_err-judge-in-Record
returns-in_err-judge-in-Record c =
    let e : c.from_residual.result ≡ Err c.in_err-judge-in-Record.field-0.0 = search rules in
    next_turn c.args.feed c.if-feed-gt0.false c.in-Record.is c.judge.ensures (rw c.in_err-judge-in-Record.was e)
