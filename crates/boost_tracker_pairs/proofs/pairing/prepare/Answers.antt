-- `pairing::prepare` meets its contract: a refused call changes nothing, and an accepted one has room for every list. Assumes nothing.
use mathlib.Core.Path.{◌≡◌, ◌∙◌, sym}
use Rattle.std.proofs.Common.{rules, Err}
use native.Mathlib.Omega.{arith}
use lib.ListN.{length}
use Rattle.boost_tracker_table.specs.Lent.{table_with}
use Rattle.boost_tracker_verdict.specs.Boxes.{boxes_with}
use Rattle.boost_tracker_verdict.proofs.ReadyLaws.{ready}
use Rattle.boost_tracker_pairs.specs.Pairs.{inputs_with}
use Rattle.boost_tracker_pairs.proofs.PairLaws.{since_low, roomy-fits, ends-refused, ends-short, ends-prepared}
use Rattle.boost_tracker_pairs.proofs.pairing.prepare.Goals as goal

pub returns-in_err-frame_verdict : goal.returns-in_err-frame_verdict
returns-in_err-frame_verdict c =
    let a = c.args in
    let e : c.from_residual.result ≡ Err c.in_err-frame_verdict.field-0.0 = search rules in
    rw e
    (ends-refused a.settings a.state (boxes_with a.boxes.now a.box_labels.now) (table_with a.floats.now a.counters.now a.labels.now) a.room a.work64 a.seen
    (inputs_with a.corners.now a.kept_labels.now a.scores.now a.trks.now a.confs.now) a.work32.now (sym c.frame_verdict.ensures ∙ c.in_err-frame_verdict.was))

pub returns-then-not-roomy : goal.returns-then-not-roomy
returns-then-not-roomy c =
    let a = c.args in
    ends-short a.settings a.state (boxes_with a.boxes.now a.box_labels.now) (table_with a.floats.now a.counters.now a.labels.now) a.room a.work64 a.seen
    (inputs_with a.corners.now a.kept_labels.now a.scores.now a.trks.now a.confs.now) a.work32.now (sym c.frame_verdict.ensures ∙ c.in_ok-frame_verdict.was)
    (sym c.roomy.ensures ∙ c.if-not-roomy.true)

pub prepare_fronts-requires : goal.prepare_fronts-requires
prepare_fronts-requires c =
    let a = c.args in
    let roomy = sym c.roomy.ensures ∙ c.if-not-roomy.false in
    let r = ready a.settings a.state (table_with a.floats.now a.counters.now a.labels.now) (boxes_with a.boxes.now a.box_labels.now) a.room a.work64 (length a.work32.now)
    (sym c.frame_verdict.ensures ∙ c.in_ok-frame_verdict.was) in
    let m = roomy-fits (length a.corners.now) (length a.kept_labels.now) (length a.scores.now) (length a.trks.now) (length a.confs.now) roomy in
    record {
      sizes = record { few-boxes = r.boxes-low; placed = omega (arith, r.space); labelled = omega (arith, r.boxes-low, m.labels_fit); singles = r.singles };
      low = since_low a.settings a.state (table_with a.floats.now a.counters.now a.labels.now) (boxes_with a.boxes.now a.box_labels.now) a.room a.work64 (length a.work32.now) r;
      counts = (omega (arith, r.space), r.frames-low);
      roomy = roomy;
    }

pub returns : goal.returns
returns c =
    let a = c.args in
    ends-prepared a.settings a.state (boxes_with a.boxes.now a.box_labels.now) (table_with a.floats.now a.counters.now a.labels.now) a.room a.work64 a.seen
    (inputs_with a.corners.now a.kept_labels.now a.scores.now a.trks.now a.confs.now) a.work32.now (sym c.frame_verdict.ensures ∙ c.in_ok-frame_verdict.was)
    (sym c.roomy.ensures ∙ c.if-not-roomy.false) c.prepare_fronts.ensures
