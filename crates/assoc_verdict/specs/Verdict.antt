-- The verdict on a call of associate: document 01, "When a call is turned down", Pairs, and document 02, N2: "34 such a label in associating, the one pairing
-- routine that takes labels, after 33; label slices count under 32." Such a label is one other than 1 to 3.
use Rattle.std.specs.Prelude.{⊤, Result, ◌≡◌, Bool, not, ◌&&◌, ◌||◌, List, ℕ, ◌*◌, ◌≤◌, max, ltb, eqb, length}
use Rattle.labels.specs.Label.{unlabelled}
use Rattle.refusals.specs.declared.refusal.Refusal.{Refusal}
use Rattle.refusals.specs.Refusal.{too_many, verdict, labelled_too}
use Rattle.assoc_cost.specs.declared.cost.AssociateParams.{AssociateParams}
use Rattle.assoc_assignment.specs.declared.assignment.Room.{Room}
use Rattle.assoc_assignment.specs.Answers.{assignment_short}

-- ---- from the lengths of what is given and lent

-- corners or confidences of another size
abbrev pub other_size : AssociateParams → ℕ → ℕ → ℕ → ℕ → ℕ → ℕ → Bool
other_size params boxes tracks detections corners track_confidence detection_confidence =
    (not (eqb detections (boxes * 4)) || not (eqb corners (tracks * 4)))
    || (params.has_confidence && (not (eqb track_confidence tracks) || not (eqb detection_confidence boxes)))

-- a list or a work slice too short: work32 has 4 n n floats
abbrev pub associate_short : ℕ → ℕ → Room → ℕ → ℕ → Bool
associate_short boxes tracks room work64 work32 =
    let n = max boxes tracks in
    ltb work32 (4 * (n * n)) || assignment_short boxes tracks room work64

unfoldable pub within_verdict : AssociateParams → ℕ → ℕ → ℕ → ℕ → ℕ → ℕ → Room → ℕ → ℕ → Result ⊤ Refusal
within_verdict params boxes tracks detections corners track_confidence detection_confidence room work64 work32 =
    verdict
    (too_many boxes tracks)
    (other_size params boxes tracks detections corners track_confidence detection_confidence)
    (associate_short boxes tracks room work64 work32)

-- labels of another size
abbrev pub other_labels : ℕ → ℕ → ℕ → ℕ → Bool
other_labels boxes tracks box_labels track_labels = not (eqb box_labels boxes) || not (eqb track_labels tracks)

-- with distances and labels
unfoldable pub associate_sizes : AssociateParams → ℕ → ℕ → ℕ → ℕ → ℕ → ℕ → ℕ → ℕ → ℕ → Room → ℕ → ℕ → Result ⊤ Refusal
associate_sizes params boxes tracks detections corners mahalanobis track_confidence detection_confidence box_labels track_labels room work64 work32 =
    verdict
    (too_many boxes tracks)
    ((params.has_mahalanobis && not (eqb mahalanobis (boxes * tracks)))
    || (other_labels boxes tracks box_labels track_labels || other_size params boxes tracks detections corners track_confidence detection_confidence))
    (associate_short boxes tracks room work64 work32)

-- and from the labels: any of either side, also where the other side is 0
unfoldable pub associate_verdict : AssociateParams → ℕ → ℕ → ℕ → ℕ → ℕ → ℕ → ℕ → List ℕ → List ℕ → Room → ℕ → ℕ → Result ⊤ Refusal
associate_verdict params boxes tracks detections corners mahalanobis track_confidence detection_confidence box_labels track_labels room work64 work32 =
    labelled_too
    (associate_sizes params boxes tracks detections corners mahalanobis track_confidence detection_confidence (length box_labels) (length track_labels) room work64 work32)
    (unlabelled box_labels (length box_labels) || unlabelled track_labels (length track_labels))

-- ---- what an accepted call has been found to hold

-- corners that fit the sides, and room for two matrices
pub record Cornered (boxes tracks detections corners cells : ℕ) : Type 0 where
  pub few-rows : boxes ≤ 255
  pub few-cols : tracks ≤ 255
  pub detections_fit : detections ≡ boxes * 4
  pub corners_fit : corners ≡ tracks * 4
  pub room : 2 * (boxes * tracks) ≤ cells
