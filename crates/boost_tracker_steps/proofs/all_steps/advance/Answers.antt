-- `all_steps::advance` meets its contract: what is prepared is concluded. Assumes nothing.
use Rattle.std.proofs.Common.{rules, ◌≡◌, Err}
use Rattle.boost_tracker_verdict.specs.Boxes.{boxes_with}
use Rattle.boost_tracker_pairs.specs.Pairs.{inputs_with}
use Rattle.boost_tracker_pairs.proofs.EndLaws.{blank, roomy-blank, roomy-lists}
use Rattle.boost_tracker_steps.proofs.AdvanceLaws.{advance_refused, kept_few}
use Rattle.boost_tracker_steps.proofs.all_steps.advance.Goals as goal

pub conclude-requires : goal.conclude-requires
conclude-requires c =
    let a = c.args in
    let p = c.prepare in
    record {
      few = kept_few a.settings a.state a.floats.now a.counters.now a.labels.now (boxes_with a.boxes.now a.box_labels.now) a.room a.work64.now a.work32.now roomy-blank p.ensures c.in_ok-prepared.was;
      roomy = roomy-lists (inputs_with p.new.corners p.new.kept_labels p.new.scores p.new.trks p.new.confs) p.auto.corners p.auto.kept_labels p.auto.scores p.auto.trks p.auto.confs;
    }

pub returns-in_err-prepared : goal.returns-in_err-prepared
returns-in_err-prepared c =
    let a = c.args in
    let p = c.prepare in
    let e : c.from_residual.result ≡ Err c.in_err-prepared.field-0.0 = search rules in
    rw e
    (advance_refused a.settings a.state a.floats.now a.counters.now a.labels.now (boxes_with a.boxes.now a.box_labels.now) a.room a.work64.now a.work32.now roomy-blank p.ensures c.in_err-prepared.was)

pub returns : goal.returns
returns c =
    let a = c.args in
    let p = c.prepare in
    c.conclude.ensures.ends (boxes_with a.boxes.now a.box_labels.now) a.room blank a.work32.now roomy-blank p.auto.work32 (rw c.in_ok-prepared.was at p.ensures)
