-- `frame::update` meets its contract: a refused frame changes nothing, and an accepted one is finished. Assumes nothing.
use Rattle.boost_tracker_verdict.specs.Boxes.{boxes_with}
use Rattle.boost_tracker.proofs.FrameLaws.{update-refused, finish-room, update-accepted}
use Rattle.boost_tracker.proofs.frame.update.Goals as goal

pub returns-in-Err : goal.returns-in-Err
returns-in-Err c =
    let a = c.args in
    update-refused a.settings a.state a.floats.now a.counters.now a.labels.now (boxes_with a.boxes.now a.box_labels.now) a.out.now a.work64.now a.work32.now
    c.advance-advanced.ensures c.in-Err.is c.refused.ensures

pub finish-requires : goal.finish-requires
finish-requires c =
    let a = c.args in
    finish-room a.settings a.state a.floats.now a.counters.now a.labels.now (boxes_with a.boxes.now a.box_labels.now) a.out.now a.work64.now a.work32.now
    c.advance-advanced.ensures c.in-Ok.is

pub returns-in-Ok : goal.returns-in-Ok
returns-in-Ok c =
    let a = c.args in
    update-accepted a.settings a.state a.floats.now a.counters.now a.labels.now (boxes_with a.boxes.now a.box_labels.now) a.out.now a.work64.now a.work32.now
    c.advance-advanced.ensures c.in-Ok.is c.finish.ensures
