-- What a call of linear_assignment says and leaves in lent memory: document 01, "When a call is turned down", Pairs.
use Rattle.std.specs.Prelude.{⊤, Result, Ok, Err, Bool, not, ◌||◌, List, ℕ, ◌*◌, max, min, ltb, eqb, Float, length}
use Rattle.laws.specs.Over.{over}
use Rattle.refusals.specs.declared.refusal.Refusal.{Refusal}
use Rattle.refusals.specs.Refusal.{number, too_many, verdict}
use Rattle.assoc_matching.specs.Matching.{boxes_of, tracks_of}
use Rattle.assoc_matching.specs.Answers.{Call, call_by, zeroed}
use Rattle.assoc_assignment.specs.declared.assignment.AssignmentCounts.{AssignmentCounts}
use Rattle.assoc_assignment.specs.declared.assignment.Room.{Room}
use Rattle.assoc_assignment.specs.Assignment.{Assignment, linear_assignment}

-- ---- lent memory

pub record Lists : Type 0 where
  -- the pairs: a box, and its track at the same place
  pub pair_boxes : List ℕ
  pub pair_tracks : List ℕ
  pub unmatched_detections : List ℕ
  pub unmatched_tracks : List ℕ

abbrev pub lists_with : List ℕ → List ℕ → List ℕ → List ℕ → Lists
lists_with pair_boxes pair_tracks unmatched_detections unmatched_tracks =
    record { pair_boxes = pair_boxes; pair_tracks = pair_tracks; unmatched_detections = unmatched_detections; unmatched_tracks = unmatched_tracks }

-- those of an assignment over the fronts
abbrev pub listed : Assignment → Lists → Lists
listed a l =
    lists_with
    (over (boxes_of a.matches) l.pair_boxes)
    (over (tracks_of a.matches) l.pair_tracks)
    (over a.unmatched_detections l.unmatched_detections)
    (over a.unmatched_tracks l.unmatched_tracks)

-- their lengths
abbrev pub room_with : ℕ → ℕ → ℕ → ℕ → Room
room_with pair_boxes pair_tracks unmatched_detections unmatched_tracks =
    record { pair_boxes = pair_boxes; pair_tracks = pair_tracks; unmatched_detections = unmatched_detections; unmatched_tracks = unmatched_tracks }

abbrev pub room_of : Lists → Room
room_of l = room_with (length l.pair_boxes) (length l.pair_tracks) (length l.unmatched_detections) (length l.unmatched_tracks)

pub record Lent : Type 0 where
  pub lists : Lists
  pub work : List Float

abbrev pub lent_with : List ℕ → List ℕ → List ℕ → List ℕ → List Float → Lent
lent_with pair_boxes pair_tracks unmatched_detections unmatched_tracks work = record { lists = lists_with pair_boxes pair_tracks unmatched_detections unmatched_tracks; work = work }

-- the lists over the fronts, and the work slice zero
abbrev pub lent_after : Assignment → Lent → Lent
lent_after a l = record { lists = listed a l.lists; work = zeroed l.work }

-- ---- what an answer says

abbrev pub assignment_counts : Assignment → AssignmentCounts
assignment_counts a = record { pairs = length a.matches; detections = length a.unmatched_detections; tracks = length a.unmatched_tracks; rejected = length a.rejected; turns = a.turns; scans = a.scans }

abbrev pub no_counts : AssignmentCounts
no_counts = record { pairs = 0; detections = 0; tracks = 0; rejected = 0; turns = 0; scans = 0 }

abbrev pub assignment_number : Result AssignmentCounts Refusal → ℕ
assignment_number (Ok c) = 0
assignment_number (Err why) = number why

abbrev pub assignment_values : Result AssignmentCounts Refusal → AssignmentCounts
assignment_values (Ok c) = c
assignment_values (Err why) = no_counts

abbrev pub call_with : {L : Type 0} → Result AssignmentCounts Refusal → L → Call AssignmentCounts L
call_with r l = record { number = assignment_number r; counts = assignment_values r; lent = l }

-- ---- a call

-- a list or the work slice too short
abbrev pub assignment_short : ℕ → ℕ → Room → ℕ → Bool
assignment_short boxes tracks room work =
    let few = min boxes tracks in
    let n = max boxes tracks in
    (((ltb room.unmatched_detections boxes || ltb room.unmatched_tracks tracks) || ltb room.pair_boxes few) || ltb room.pair_tracks few) || ltb work (n * n)

-- from the lengths of the two matrices, of the lists and of the work slice
unfoldable pub assignment_verdict : ℕ → ℕ → ℕ → ℕ → Room → ℕ → Result ⊤ Refusal
assignment_verdict boxes tracks ious costs room work =
    verdict
    (too_many boxes tracks)
    (not (eqb ious (boxes * tracks)) || not (eqb costs (boxes * tracks)))
    (assignment_short boxes tracks room work)

unfoldable pub assignment_call : ℕ → ℕ → List Float → List Float → Float → Lent → Call AssignmentCounts Lent
assignment_call boxes tracks iou cost threshold l =
    let v = assignment_verdict boxes tracks (length iou) (length cost) (room_of l.lists) (length l.work) in
    let a = linear_assignment iou cost boxes tracks threshold in
    call_by v (assignment_counts a) (lent_after a l) no_counts l
