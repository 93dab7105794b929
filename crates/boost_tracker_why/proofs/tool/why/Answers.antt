-- `tool::why` meets its contract: a box that the frame has is explained. Assumes nothing.
use Rattle.std.proofs.Common.{rules, ◌≡◌, ◌∙◌, sym, Err}
use Rattle.boost_tracker_why.specs.declared.refusal.WhyRefusal.TheVariants.{Frame}
use Rattle.boost_tracker_table.specs.Lent.{table_with}
use Rattle.boost_tracker_verdict.specs.Boxes.{boxes_with}
use Rattle.boost_tracker_pairs.proofs.EndLaws.{roomy-blank}
use Rattle.boost_tracker_why.proofs.WhyLaws.{why_turned_down, why_beyond}
use Rattle.boost_tracker_why.proofs.tool.why.Goals as goal

pub returns-in_err-frame_verdict : goal.returns-in_err-frame_verdict
returns-in_err-frame_verdict c =
    let a = c.args in
    let e : c.from_residual.result ≡ Err (Frame c.in_err-frame_verdict.field-0.0) = search rules in
    rw e
    (why_turned_down a.settings a.state (boxes_with a.boxes.now a.box_labels.now) (table_with a.floats.now a.counters.now a.labels.now) a.room a.index a.work64.now a.work32.now
    (sym c.frame_verdict.ensures ∙ c.in_err-frame_verdict.was))

pub returns-then-boxes-index : goal.returns-then-boxes-index
returns-then-boxes-index c =
    let a = c.args in
    why_beyond a.settings a.state (boxes_with a.boxes.now a.box_labels.now) (table_with a.floats.now a.counters.now a.labels.now) a.room a.index a.work64.now a.work32.now
    c.if-boxes-index.true (sym c.frame_verdict.ensures ∙ c.in_ok-frame_verdict.was)

pub explain-requires : goal.explain-requires
explain-requires c = record { given = c.if-boxes-index.false; roomy = roomy-blank }

pub returns : goal.returns
returns c = c.explain.ensures
