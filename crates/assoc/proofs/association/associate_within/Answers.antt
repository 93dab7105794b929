-- `association::associate_within` meets its contract: a refused call changes nothing, and an accepted one goes through its stages. Assumes nothing.
use mathlib.Core.Path.{◌≡◌, sym, ◌∙◌}
use Rattle.std.proofs.Common.{Err, rules}
use Prim.Native.Nat.{◌*◌}
use native.Mathlib.Omega.{arith}
use lib.ListN.{take}
use Rattle.assoc.specs.Answers.{lent_with}
use Rattle.assoc.proofs.AssociationLaws.{not_refused}
use Rattle.assoc_verdict.proofs.Laws.{within-ready}
use Rattle.assoc.proofs.EndLaws.{paired_is, within-refused, within-accepted}
use Rattle.assoc.proofs.association.associate_within.Goals as goal

pub returns-in_err-within_verdict : goal.returns-in_err-within_verdict
returns-in_err-within_verdict c =
    let e : c.from_residual.result ≡ Err c.in_err-within_verdict.field-0.0 = search rules in
    rw e (within-refused _ _ _ _ _ _ _ _ _ _ (rw c.lengths.ensures at c.within_verdict.ensures) c.in_err-within_verdict.was)

pub liken_within-requires : goal.liken_within-requires
liken_within-requires c =
    let ready = within-ready _ _ _ _ _ _ _ _ _ _ (sym (rw c.lengths.ensures at c.within_verdict.ensures) ∙ c.in_ok-within_verdict.was) in
    let room = ready.cornered.room in
    (ready.cornered.few-rows, ready.cornered.few-cols, omega arith)

pub pair_up-requires : goal.pair_up-requires
pair_up-requires c =
    let verdict = (rw c.lengths.ensures at c.within_verdict.ensures) in
    let accepted = c.in_ok-within_verdict.was in
    rw c.liken_within.auto.cells (within-ready _ _ _ _ _ _ _ _ _ _ (sym verdict ∙ accepted)).cornered

pub returns : goal.returns
returns c =
    let a = c.args in
    let verdict = (rw c.lengths.ensures at c.within_verdict.ensures) in
    let accepted = c.in_ok-within_verdict.was in
    let liken-within = c.liken_within in
    let lent = lent_with a.pair_boxes.now a.pair_tracks.now a.unmatched_detections.now a.unmatched_tracks.now a.work64.now a.work32.now in
    let fits = within-ready _ _ _ _ _ _ _ _ _ _ (sym verdict ∙ accepted) in
    c.pair_up.ensures
    ∙ paired_is a.params a.boxes a.tracks a.detections.now a.corners.now (take (a.boxes * a.tracks) a.work32.now) a.track_confidence.now a.detection_confidence.now
    a.box_labels.now a.track_labels.now lent fits liken-within.ensures.cells liken-within.auto.cells
    ∙ within-accepted _ _ _ _ _ _ _ _ _ _ (sym verdict ∙ accepted)

pub returns-in_err-liken_within : goal.returns-in_err-liken_within
returns-in_err-liken_within c = absurd (not_refused c.liken_within.ensures.answer c.in_err-liken_within.was)
