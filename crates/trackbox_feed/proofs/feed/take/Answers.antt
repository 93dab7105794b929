-- `feed::take` meets its contract: what is worked, stored and answered is what the definition has for the turn. Assumes nothing.
use mathlib.Core.Path.{sym, ◌∙◌}
use borrow.Author.Tests.{lt-ltb}
use Rattle.boost_tracker_verdict.specs.Boxes.{Boxes, boxes_with}
use Rattle.trackbox_feed.specs.Feed.{Lent, lent_with}
use Rattle.trackbox_feed.proofs.CallLaws.{short-call, turn_call_lem, refused_call}
use Rattle.trackbox_feed.proofs.FrameLaws.{text-room}
use Rattle.trackbox_feed.proofs.feed.take.Goals as goal

pub returns-then-text-out : goal.returns-then-text-out
returns-then-text-out c =
    let a = c.args in
    let lent : Lent = lent_with a.floats.now a.counters.now a.labels.now a.out.now a.work64.now a.work32.now a.text.now in
    let boxes : Boxes = boxes_with a.boxes.now a.box_labels.now in
    short-call a.feed boxes lent a.item c.if-text-out.true

pub work_task-worked-requires : goal.work_task-worked-requires
work_task-worked-requires c = lt-ltb _ _ c.if-text-out.false

pub returns : goal.returns
returns c =
    let a = c.args in
    let lent : Lent = lent_with a.floats.now a.counters.now a.labels.now a.out.now a.work64.now a.work32.now a.text.now in
    let boxes : Boxes = boxes_with a.boxes.now a.box_labels.now in
    turn_call_lem a.feed boxes lent a.item c.if-text-out.false (sym c.in-Ok.is ∙ c.turn_of.ensures) c.task_of.ensures
    c.work_task-worked.ensures c.hold_turn.ensures c.answer.ensures

pub put_refused-requires : goal.put_refused-requires
put_refused-requires c = text-room _ _ (lt-ltb _ _ c.if-text-out.false)

pub returns-in-Err : goal.returns-in-Err
returns-in-Err c =
    let a = c.args in
    refused_call a.feed a.floats.now a.counters.now a.labels.now a.out.now a.work64.now a.work32.now a.text.now (boxes_with a.boxes.now a.box_labels.now) a.item
    c.if-text-out.false (sym c.in-Err.is ∙ c.turn_of.ensures) c.from.ensures c.put_refused.ensures
