-- `tool::explain` meets its contract: a refused call changes nothing; of an accepted one the box is explained. Assumes nothing.
use Rattle.std.proofs.Common.{rules, ◌≡◌, Err}
use Rattle.boost_tracker_why.specs.declared.refusal.WhyRefusal.TheVariants.{Frame}
use Rattle.boost_tracker_table.specs.Lent.{table_with}
use Rattle.boost_tracker_verdict.specs.Boxes.{boxes_with}
use Rattle.boost_tracker_why.proofs.WhyLaws.{why_refused, asked_is, why_done}
use Rattle.boost_tracker_why.proofs.tool.explain.Goals as goal

pub returns-in_err-prepared : goal.returns-in_err-prepared
returns-in_err-prepared c =
    let a = c.args in
    let e : c.from_residual.result ≡ Err (Frame c.in_err-prepared.field-0.0) = search rules in
    rw e
    (why_refused a.settings a.state (boxes_with a.boxes.now a.box_labels.now) (table_with a.floats.now a.counters.now a.labels.now) a.room a.index a.work64.now a.work32.now
    c.requires.roomy c.prepare.ensures c.in_err-prepared.was)

pub conclude-requires : goal.conclude-requires
conclude-requires c =
    let a = c.args in
    let p = c.prepare in
    asked_is a.settings a.state (boxes_with a.boxes.now a.box_labels.now) (table_with a.floats.now a.counters.now a.labels.now) a.room a.index a.work64.now a.work32.now
    c.requires.roomy p.ensures c.in_ok-prepared.was c.requires.given p.auto.work32
    p.auto.corners p.auto.kept_labels p.auto.scores
    p.auto.trks p.auto.confs

pub returns : goal.returns
returns c =
    let a = c.args in
    let p = c.prepare in
    why_done a.settings a.state (boxes_with a.boxes.now a.box_labels.now) (table_with a.floats.now a.counters.now a.labels.now) a.room a.index a.work64.now a.work32.now
    c.requires.roomy p.ensures c.in_ok-prepared.was c.requires.given p.auto.work32 c.conclude.ensures
