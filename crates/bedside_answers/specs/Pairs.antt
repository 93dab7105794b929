-- The pairs of include/bedside.h: a verdict as the scope document's number; `bedside_matched` and `bedside_assignment`, answers as that number and the counts.
use Rattle.std.specs.Prelude.{◌≡◌, List, ℕ, Float, ⊤, Result}
use Rattle.refusals.specs.Refusal.{verdict_number}
use Rattle.assoc_similarity.specs.Sizes.{after}
use Rattle.refusals.specs.declared.refusal.Refusal.{Refusal}
use Rattle.assoc_matching.specs.Answers.{Call, MatchLent, match_number, match_values}
use Rattle.assoc_assignment.specs.Answers.{assignment_number, assignment_values}
use Rattle.assoc_matching.specs.declared.matching.MatchCounts.{MatchCounts}
use Rattle.assoc_assignment.specs.declared.assignment.AssignmentCounts.{AssignmentCounts}
use Rattle.bedside_answers.specs.declared.pairs.Matched.{Matched}
use Rattle.bedside_answers.specs.declared.pairs.Assignment.{Assignment}

-- r is the number of the verdict v, and the slice is as a call with this verdict leaves it
pub record MatrixInC (v : Result ⊤ Refusal) (cell : ℕ → ℕ → Float) (boxes tracks : ℕ) (out : List Float) (r : ℕ) (out' : List Float) : Type 0 where
  pub number : r ≡ verdict_number v
  pub cells : out' ≡ after v cell boxes tracks out

-- of an answer
abbrev pub matched_in_c : Result MatchCounts Refusal → Matched
matched_in_c a = record { refusal = match_number a; pairs = (match_values a).pairs; turns = (match_values a).turns; scans = (match_values a).scans }

abbrev pub assignment_in_c : Result AssignmentCounts Refusal → Assignment
assignment_in_c a =
    record { refusal = assignment_number a; pairs = (assignment_values a).pairs; unmatched_detections = (assignment_values a).detections; unmatched_tracks = (assignment_values a).tracks; turns = (assignment_values a).turns; scans = (assignment_values a).scans }

-- what a call says in C's form and leaves, as the pairing has it; C is not told how many pairs were rejected
abbrev pub match_call_in_c : Matched → MatchLent → Call MatchCounts MatchLent
match_call_in_c r l = record { number = r.refusal; counts = record { pairs = r.pairs; turns = r.turns; scans = r.scans }; lent = l }

abbrev pub call_in_c : {L : Type 0} → ℕ → Assignment → L → Call AssignmentCounts L
call_in_c rejected r l =
    record { number = r.refusal; counts = record { pairs = r.pairs; detections = r.unmatched_detections; tracks = r.unmatched_tracks; rejected = rejected; turns = r.turns; scans = r.scans }; lent = l }
