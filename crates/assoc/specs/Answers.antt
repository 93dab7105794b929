-- What a call of associate says and leaves in lent memory, by its verdict: document 01, "When a call is turned down", Pairs.
use Rattle.std.specs.Prelude.{List, ℕ, ◌*◌, Float, length, take}
use Rattle.std.specs.Float.{binary32}
use Rattle.std.specs.Float.Ieee.{of_bits}
use Rattle.laws.specs.Tab.{tab}
use Rattle.assoc_cost.specs.declared.cost.AssociateParams.{AssociateParams}
use Rattle.assoc_assignment.specs.declared.assignment.AssignmentCounts.{AssignmentCounts}
use Rattle.assoc_assignment.specs.Assignment.{Assignment}
use Rattle.assoc_matching.specs.Answers.{Call, call_by, zeroed}
use Rattle.assoc_assignment.specs.Answers.{Lists, lists_with, listed, room_of, assignment_counts, no_counts}
use Rattle.assoc_verdict.specs.Verdict.{within_verdict, associate_verdict}
use Rattle.assoc.specs.Association.{associate}

-- ---- lent memory

pub record Lent : Type 0 where
  pub lists : Lists
  pub work64 : List Float
  pub work32 : List Float

abbrev pub lent_with : List ℕ → List ℕ → List ℕ → List ℕ → List Float → List Float → Lent
lent_with pair_boxes pair_tracks unmatched_detections unmatched_tracks work64 work32 =
    record { lists = lists_with pair_boxes pair_tracks unmatched_detections unmatched_tracks; work64 = work64; work32 = work32 }

abbrev pub cleared : List Float → List Float
cleared l = tab (λ i. of_bits binary32 0) (length l)

-- the lists of an assignment over the fronts, and the work slices zero
abbrev pub lent_after : Assignment → Lent → Lent
lent_after a l = record { lists = listed a l.lists; work64 = zeroed l.work64; work32 = cleared l.work32 }

-- ---- a call

unfoldable pub associate_call : AssociateParams → ℕ → ℕ → List Float → List Float → List Float → List Float → List Float → List ℕ → List ℕ → Lent → Call AssignmentCounts Lent
associate_call params boxes tracks detections corners mahalanobis track_confidence detection_confidence box_labels track_labels l =
    let v =
    associate_verdict params boxes tracks (length detections) (length corners) (length mahalanobis) (length track_confidence) (length detection_confidence) box_labels track_labels
    (room_of l.lists) (length l.work64) (length l.work32) in
    let a = associate params boxes tracks detections corners mahalanobis track_confidence detection_confidence box_labels track_labels in
    call_by v (assignment_counts a) (lent_after a l) no_counts l

-- of associate_within: the distances are what lies in the front of work32. It refuses no label; a missing one is as 0
unfoldable pub within_call : AssociateParams → ℕ → ℕ → List Float → List Float → List Float → List Float → List ℕ → List ℕ → Lent → Call AssignmentCounts Lent
within_call params boxes tracks detections corners track_confidence detection_confidence box_labels track_labels l =
    let v = within_verdict params boxes tracks (length detections) (length corners) (length track_confidence) (length detection_confidence) (room_of l.lists) (length l.work64) (length l.work32) in
    let a = associate params boxes tracks detections corners (take (boxes * tracks) l.work32) track_confidence detection_confidence box_labels track_labels in
    call_by v (assignment_counts a) (lent_after a l) no_counts l
