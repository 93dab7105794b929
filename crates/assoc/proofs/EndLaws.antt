-- The two ends of a call of associate or associate_within: refused with nothing changed, and accepted. Assumes nothing.
use mathlib.Core.Path.{◌≡◌, sym, ap, ◌∙◌}
use mathlib.Core.Bool.{Bool}
use mathlib.Core.List.{List}
use Prim.Native.Nat.{ℕ, ◌*◌}
use lib.Ieee.{Float, nan, binary32, of_bits}
use lib.ListN.{length, take}
use Rattle.laws.specs.Tab.{tab}
use Rattle.laws.specs.Grid.{cell_at}
use Rattle.labels.specs.Label.{same_label, alike, where_alike}
use Rattle.floats.specs.Single.{plus_zero}
use Rattle.assoc_cost.specs.declared.cost.AssociateParams.{AssociateParams}
use Rattle.refusals.specs.declared.refusal.Refusal.{Refusal}
use Rattle.std.specs.Bool.{⊤}
use Rattle.std.proofs.Common.{Result, Ok, Err}
use Rattle.assoc_similarity.specs.Overlap.{iou_batch}
use Rattle.assoc_cost.specs.Cost.{cost_matrix}
use Rattle.assoc_assignment.specs.Assignment.{Assignment, linear_assignment}
use Rattle.assoc_assignment.specs.Answers.{room_of, assignment_counts, call_with, assignment_verdict, assignment_call}
use Rattle.assoc_assignment.specs.Answers as Assignments
use Rattle.assoc.specs.Association.{costs, associate}
use Rattle.assoc.specs.Answers.{Lent, cleared, lent_after, associate_call, within_call}
use Rattle.assoc_verdict.specs.Verdict.{within_verdict, associate_verdict}
use Rattle.assoc.specs.Private.{Likened, marked_ious, with_floats}
use Rattle.assoc_verdict.proofs.Laws.{AssociateReady}
use Rattle.assoc.proofs.AssociationLaws.{length_matrix, associate-is}

-- what linear_assignment is lent of it
abbrev pub lent_for : Lent → Assignments.Lent
lent_for l = record { lists = l.lists; work = l.work64 }

-- the assignment by the two matrices is the definition's, where the similarities of the distances lie in the front of `cells`
pub paired_is : (params : AssociateParams) (boxes tracks : ℕ) (detections corners distance track_confidence detection_confidence : List Float) (box_labels track_labels : List ℕ) (l : Lent) {cells : List Float}
    → AssociateReady boxes tracks (length detections) (length corners) (room_of l.lists) (length l.work64) (length l.work32)
    → Likened params.has_mahalanobis boxes tracks distance cells → length cells ≡ length l.work32
    → with_floats (cleared cells)
    (assignment_call boxes tracks (marked_ious (alike same_label box_labels track_labels) boxes tracks detections corners)
    (costs (alike same_label box_labels track_labels) params boxes tracks detections corners track_confidence detection_confidence (cell_at nan tracks cells)) params.iou_threshold (lent_for l))
    ≡ call_with (Ok (assignment_counts (associate params boxes tracks detections corners distance track_confidence detection_confidence box_labels track_labels)))
    (lent_after (associate params boxes tracks detections corners distance track_confidence detection_confidence box_labels track_labels) l)
unfolding assignment_call
paired_is params boxes tracks detections corners distance track_confidence detection_confidence box_labels track_labels l {cells} ready likened same =
    let like : ℕ → ℕ → Bool = alike same_label box_labels track_labels in
    let iou : List Float = marked_ious like boxes tracks detections corners in
    let cost : List Float = costs like params boxes tracks detections corners track_confidence detection_confidence (cell_at nan tracks cells) in
    let v : assignment_verdict boxes tracks (length iou) (length cost) (room_of l.lists) (length l.work64) ≡ Ok tt =
    rw (
      length_matrix (where_alike like (iou_batch detections corners) nan) boxes tracks,
      length_matrix (where_alike like (cost_matrix params detections corners track_confidence detection_confidence (cell_at nan tracks cells)) plus_zero) boxes tracks,
    ) ready.assigned in
    let a : linear_assignment iou cost boxes tracks params.iou_threshold ≡ associate params boxes tracks detections corners distance track_confidence detection_confidence box_labels track_labels =
    associate-is same_label params boxes tracks detections corners distance track_confidence detection_confidence box_labels track_labels ready.cornered.few-rows ready.cornered.few-cols cells likened in
    let z : cleared cells ≡ cleared l.work32 = ap (tab (λ i. of_bits binary32 0)) same in
    rw (v, a, z)

module _ (params : AssociateParams) (boxes tracks : ℕ) (detections corners mahalanobis track_confidence detection_confidence : List Float) (box_labels track_labels : List ℕ) (l : Lent) where
  abbrev asked : Result ⊤ Refusal
  asked =
      associate_verdict params boxes tracks (length detections) (length corners) (length mahalanobis) (length track_confidence) (length detection_confidence) box_labels track_labels
      (room_of l.lists) (length l.work64) (length l.work32)

  abbrev value : Assignment
  value = associate params boxes tracks detections corners mahalanobis track_confidence detection_confidence box_labels track_labels

  pub associate-refused : {v : Result ⊤ Refusal} {why : Refusal} → v ≡ asked → v ≡ Err why
      → call_with (Err why) l ≡ associate_call params boxes tracks detections corners mahalanobis track_confidence detection_confidence box_labels track_labels l
  unfolding associate_call
  associate-refused e f = rw (sym e ∙ f)

  pub associate-accepted : asked ≡ Ok tt
      → call_with (Ok (assignment_counts value)) (lent_after value l) ≡ associate_call params boxes tracks detections corners mahalanobis track_confidence detection_confidence box_labels track_labels l
  unfolding associate_call
  associate-accepted e = rw e

module _ (params : AssociateParams) (boxes tracks : ℕ) (detections corners track_confidence detection_confidence : List Float) (box_labels track_labels : List ℕ) (l : Lent) where
  abbrev asked_within : Result ⊤ Refusal
  asked_within = within_verdict params boxes tracks (length detections) (length corners) (length track_confidence) (length detection_confidence) (room_of l.lists) (length l.work64) (length l.work32)

  abbrev value-within : Assignment
  value-within = associate params boxes tracks detections corners (take (boxes * tracks) l.work32) track_confidence detection_confidence box_labels track_labels

  pub within-refused : {v : Result ⊤ Refusal} {why : Refusal} → v ≡ asked_within → v ≡ Err why
      → call_with (Err why) l ≡ within_call params boxes tracks detections corners track_confidence detection_confidence box_labels track_labels l
  unfolding within_call
  within-refused e f = rw (sym e ∙ f)

  pub within-accepted : asked_within ≡ Ok tt
      → call_with (Ok (assignment_counts value-within)) (lent_after value-within l) ≡ within_call params boxes tracks detections corners track_confidence detection_confidence box_labels track_labels l
  unfolding within_call
  within-accepted e = rw e
