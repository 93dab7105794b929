-- Document 02, N7, its first half: "Whenever associating is accepted, for any bit patterns, no two pairs share a box or a track, every pair's IoU is at least the threshold, and pairs with unmatched boxes hold
-- each box exactly once, and the same for tracks. .. No pair joins unequal labels." `accounted_for` of proofs/Theorem.antt proves it of every accepted call, and `associate-lists` of the definition.
-- A frame pairs by `associate_within`, whose contract cites the same definition: what is said of the definition is said of frames too.
use Rattle.std.specs.Prelude.{Result, ◌≡◌, true, List, ◌++◌, ℕ, ◌≤◌, ◌<◌, ltb, Float, length, get_or, take}
use Rattle.std.specs.Float.Ieee.{le}
use Rattle.laws.specs.Count.{bit}
use Rattle.laws.specs.Occurs.{occurs}
use Rattle.labels.specs.Label.{label_at}
use Rattle.assoc_similarity.specs.Overlap.{iou_batch}
use Rattle.assoc_matching.specs.Matching.{boxes_of, tracks_of}
use Rattle.assoc_matching.specs.Account.{Distinct}
use Rattle.assoc_assignment.specs.declared.assignment.AssignmentCounts.{AssignmentCounts}
use Rattle.refusals.specs.declared.refusal.Refusal.{Refusal}
use Rattle.assoc_assignment.specs.Assignment.{Assignment}
use Rattle.assoc_assignment.specs.Answers.{Lists, lists_with, assignment_number, assignment_values, call_with}
use Rattle.assoc_cost.specs.declared.cost.AssociateParams.{AssociateParams}
use Rattle.assoc.specs.Association.{associate}
use Rattle.assoc.specs.Answers.{Lent, associate_call}

-- pair k is box k of the one list and track k of the other
abbrev pub box_in : Lists → ℕ → ℕ
box_in l k = get_or l.pair_boxes k 0

abbrev pub track_in : Lists → ℕ → ℕ
track_in l k = get_or l.pair_tracks k 0

-- of so many boxes and tracks with these corners and labels
pub record Account (threshold : Float) (boxes tracks : ℕ) (detections corners : List Float) (box_labels track_labels : List ℕ) (l : Lists) : Type 0 where
  -- no two pairs share a box or a track
  pub boxes-apart : Distinct boxes l.pair_boxes
  pub tracks-apart : Distinct tracks l.pair_tracks
  -- pairs with unmatched boxes hold each box exactly once, and nothing else; the same for tracks
  pub boxes-once : (b : ℕ) → occurs b (l.pair_boxes ++ l.unmatched_detections) ≡ bit (ltb b boxes)
  pub tracks-once : (t : ℕ) → occurs t (l.pair_tracks ++ l.unmatched_tracks) ≡ bit (ltb t tracks)
  -- every pair's IoU is at least the threshold; no label rule makes it 0, as its labels are equal
  pub halves : length l.pair_boxes ≡ length l.pair_tracks
  pub overlapping : (k : ℕ) → k < length l.pair_boxes → le threshold (iou_batch detections corners (box_in l k) (track_in l k)) ≡ true
  -- no pair joins unequal labels
  pub equal_labels : (k : ℕ) → k < length l.pair_boxes → label_at box_labels (box_in l k) ≡ label_at track_labels (track_in l k)

-- what a call wrote of the lent lists, by its counts
abbrev pub written : AssignmentCounts → Lists → Lists
written c l = lists_with (take c.pairs l.pair_boxes) (take c.pairs l.pair_tracks) (take c.detections l.unmatched_detections) (take c.tracks l.unmatched_tracks)

-- THE THEOREM, of every call of `associate` by its contract: what it answers, and what it leaves of what it was lent
abbrev pub AccountedFor : Type 0
AccountedFor =
    (params : AssociateParams) (boxes tracks : ℕ) (detections corners mahalanobis track_confidence detection_confidence : List Float) (box_labels track_labels : List ℕ) (l l' : Lent) (r : Result AssignmentCounts Refusal)
    → call_with r l' ≡ associate_call params boxes tracks detections corners mahalanobis track_confidence detection_confidence box_labels track_labels l → assignment_number r ≡ 0
    → Account params.iou_threshold boxes tracks detections corners box_labels track_labels (written (assignment_values r) l'.lists)

-- the four lists of an assignment
abbrev pub lists_of : Assignment → Lists
lists_of a = lists_with (boxes_of a.matches) (tracks_of a.matches) a.unmatched_detections a.unmatched_tracks

-- the same of the definition, for at most 255 boxes and 255 tracks: `associate-lists`
abbrev pub AccountedByDefinition : Type 0
AccountedByDefinition =
    (params : AssociateParams) (boxes tracks : ℕ) (detections corners mahalanobis track_confidence detection_confidence : List Float) (box_labels track_labels : List ℕ) → boxes ≤ 255 → tracks ≤ 255
    → Account params.iou_threshold boxes tracks detections corners box_labels track_labels (lists_of (associate params boxes tracks detections corners mahalanobis track_confidence detection_confidence box_labels track_labels))
