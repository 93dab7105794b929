-- `association::associate` meets its contract: a refused call changes nothing, and an accepted one goes through its stages. Assumes nothing.
use mathlib.Core.Path.{◌≡◌, sym, ◌∙◌}
use Rattle.std.proofs.Common.{Err, rules}
use native.Mathlib.Omega.{arith}
use Rattle.assoc.specs.Answers.{lent_with}
use Rattle.assoc.proofs.AssociationLaws.{not_refused}
use Rattle.assoc_verdict.proofs.Laws.{associate-ready}
use Rattle.assoc.proofs.EndLaws.{paired_is, associate-refused, associate-accepted}
use Rattle.assoc.proofs.association.associate.Goals as goal

pub returns-in_err-associate_verdict : goal.returns-in_err-associate_verdict
returns-in_err-associate_verdict c =
    let e : c.from_residual.result ≡ Err c.in_err-associate_verdict.field-0.0 = search rules in
    rw e (associate-refused _ _ _ _ _ _ _ _ _ _ _ (rw c.lengths.ensures at c.associate_verdict.ensures) c.in_err-associate_verdict.was)

pub liken-requires : goal.liken-requires
liken-requires c =
    let ready = associate-ready _ _ _ _ _ _ _ _ _ _ _ _ _ (sym (rw c.lengths.ensures at c.associate_verdict.ensures) ∙ c.in_ok-associate_verdict.was) in
    let room = ready.0.cornered.room in
    record { sides = (ready.0.cornered.few-rows, ready.0.cornered.few-cols, omega arith); distances = ready.1 }

pub pair_up-requires : goal.pair_up-requires
pair_up-requires c =
    let verdict = (rw c.lengths.ensures at c.associate_verdict.ensures) in
    let accepted = c.in_ok-associate_verdict.was in
    rw c.liken.auto.cells (associate-ready _ _ _ _ _ _ _ _ _ _ _ _ _ (sym verdict ∙ accepted)).0.cornered

pub returns : goal.returns
returns c =
    let a = c.args in
    let verdict = (rw c.lengths.ensures at c.associate_verdict.ensures) in
    let accepted = c.in_ok-associate_verdict.was in
    let liken = c.liken in
    let lent = lent_with a.pair_boxes.now a.pair_tracks.now a.unmatched_detections.now a.unmatched_tracks.now a.work64.now a.work32.now in
    let fits = (associate-ready _ _ _ _ _ _ _ _ _ _ _ _ _ (sym verdict ∙ accepted)).0 in
    c.pair_up.ensures
    ∙ paired_is a.params a.boxes a.tracks a.detections.now a.corners.now a.mahalanobis.now a.track_confidence.now a.detection_confidence.now
    a.box_labels.now a.track_labels.now lent fits liken.ensures.cells liken.auto.cells
    ∙ associate-accepted _ _ _ _ _ _ _ _ _ _ _ (sym verdict ∙ accepted)

pub returns-in_err-liken : goal.returns-in_err-liken
returns-in_err-liken c = absurd (not_refused c.liken.ensures.answer c.in_err-liken.was)
