-- `linear_assignment` of assoc.rs, lines 559-626, without emb_cost: the pairs that stand, and what is left of the boxes and tracks.
use Rattle.std.specs.Prelude.{List, [], ◌++◌, Bool, cond, not, ℕ, ◌+◌, ◌*◌, eqb, Float, get_or}
use Rattle.std.specs.Float.{nan}
use Rattle.std.specs.Float.Ieee.{le}
use Rattle.laws.specs.Tab.{indices}
use Rattle.laws.specs.Sieve.{sieve}
use Rattle.laws.specs.Elem.{elem}
use Rattle.assoc_matching.specs.Matching.{Pair, boxes_of, tracks_of, Matched, match_detections}

-- AssignmentResult; and what the port adds: the pairs that the loop rejected, and the counts
pub record Assignment : Type 0 where
  pub matches : List Pair
  pub unmatched_detections : List ℕ
  pub unmatched_tracks : List ℕ
  pub rejected : List Pair
  pub turns : ℕ
  pub scans : ℕ

abbrev pub assignment : List Pair → List ℕ → List ℕ → List Pair → ℕ → ℕ → Assignment
assignment matches unmatched_detections unmatched_tracks rejected turns scans =
    record { matches = matches; unmatched_detections = unmatched_detections; unmatched_tracks = unmatched_tracks; rejected = rejected; turns = turns; scans = scans }

-- (0..n).filter(|d| !matched.contains(d))
unfoldable pub unmatched : List ℕ → ℕ → List ℕ
unmatched matched n = sieve (λ d. not (elem d matched)) (indices n)

-- iou_matrix[(d, t)] >= threshold
unfoldable pub valid_match : List Float → ℕ → Float → Pair → Bool
valid_match iou num_trks threshold p = le threshold (get_or iou (p.box * num_trks + p.track) nan)

-- from the matched_indices, of which those with ok stand: each list of the unmatched is ascending, and the loop pushes the rejected pairs' indices behind it
abbrev pub validated : (Pair → Bool) → ℕ → ℕ → Matched → Assignment
validated ok num_dets num_trks a =
    let matched_indices = a.matches in
    let matched_dets = boxes_of matched_indices in
    let matched_trks = tracks_of matched_indices in
    let rejected = sieve (λ p. not (ok p)) matched_indices in
    assignment
    (sieve ok matched_indices)
    (unmatched matched_dets num_dets ++ boxes_of rejected)
    (unmatched matched_trks num_trks ++ tracks_of rejected)
    rejected
    a.turns
    a.scans

-- by a cost matrix, where those pairs stand that have ok
unfoldable pub assigned_by : (Pair → Bool) → List Float → ℕ → ℕ → Float → Assignment
assigned_by ok cost num_dets num_trks threshold =
    cond (eqb num_dets 0) (assignment [] [] (indices num_trks) [] 0 0)
    (cond (eqb num_trks 0) (assignment [] (indices num_dets) [] [] 0 0)
    (validated ok num_dets num_trks (match_detections cost num_dets num_trks threshold)))

-- linear_assignment: those stand whose IoU is at least the threshold
abbrev pub linear_assignment : List Float → List Float → ℕ → ℕ → Float → Assignment
linear_assignment iou cost num_dets num_trks threshold = assigned_by (valid_match iou num_trks threshold) cost num_dets num_trks threshold
