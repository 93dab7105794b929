-- `frame::work_task` meets its contract: a frame that is turned down says so, and the lines of one that is accepted are those of its records. Assumes nothing.
use mathlib.Core.Path.{refl, sym}
use Prim.Native.Nat.{◌*◌}
use native.Mathlib.Omega.{arith}
use lib.ListN.{take}
use lib.Seq.{length-take-le}
use Rattle.records.specs.BoxRecord.{box_values}
use Rattle.boost_tracker_verdict.specs.Boxes.{Boxes, boxes_with}
use Rattle.boost_tracker.specs.Frame.{Memory, memory_with}
use Rattle.trackbox_feed.proofs.CallLaws.{frame-worked}
use Rattle.trackbox_feed.proofs.FrameLaws.{work-refused, work-accepted, emitted-room, text-room}
use Rattle.trackbox_feed.proofs.frame.work_task.Goals as goal

pub slice_bounds-update-end : goal.slice_bounds-update-end
slice_bounds-update-end c = sym (length-take-le _ _ (omega (arith, c.min-end.ensures)))

pub slice_bounds-update-end-2 : goal.slice_bounds-update-end-2
slice_bounds-update-end-2 c = sym (length-take-le _ _ (omega (arith, c.min-labelled.ensures)))

pub put_refused-requires : goal.put_refused-requires
put_refused-requires c = text-room _ _ c.requires

pub returns-in_default : goal.returns-in_default
returns-in_default c = rw c.in_default.is

pub returns-in-Err : goal.returns-in-Err
returns-in-Err c =
    let a = c.args in
    let lent : Memory = memory_with a.floats.now a.counters.now a.labels.now a.out.now a.work64.now a.work32.now in
    let front : Boxes = boxes_with (take (c.min-end.result * box_values) a.boxes.now) (take c.min-labelled.result a.box_labels.now) in
    frame-worked a.state a.nth (boxes_with a.boxes.now a.box_labels.now) (record { memory = lent; text = a.text.now })
    c.in-Some.is c.min-end.ensures c.min-labelled.ensures
    (work-refused _ c.settings.ensures a.state a.nth front lent a.text.now c.update-answer.ensures c.in-Err.is
    c.from.ensures c.put_refused.ensures)

pub put_lines-requires : goal.put_lines-requires
put_lines-requires c =
    let a = c.args in
    let lent : Memory = memory_with a.floats.now a.counters.now a.labels.now a.out.now a.work64.now a.work32.now in
    let front : Boxes = boxes_with (take (c.min-end.result * box_values) a.boxes.now) (take c.min-labelled.result a.box_labels.now) in
    emitted-room _ c.settings.ensures a.state a.nth front lent a.text.now c.update-answer.ensures c.in-Ok.is refl
    c.update-answer.auto.out c.requires

pub returns-in-Ok : goal.returns-in-Ok
returns-in-Ok c =
    let a = c.args in
    let lent : Memory = memory_with a.floats.now a.counters.now a.labels.now a.out.now a.work64.now a.work32.now in
    let front : Boxes = boxes_with (take (c.min-end.result * box_values) a.boxes.now) (take c.min-labelled.result a.box_labels.now) in
    frame-worked a.state a.nth (boxes_with a.boxes.now a.box_labels.now) (record { memory = lent; text = a.text.now })
    c.in-Some.is c.min-end.ensures c.min-labelled.ensures
    (work-accepted _ c.settings.ensures a.state a.nth front lent a.text.now c.update-answer.ensures c.in-Ok.is refl refl
    c.put_lines.ensures)
