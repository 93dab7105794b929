-- What is proved of the definition alone, for at most 255 boxes and 255 tracks and floats of any bit patterns: every box and every track is accounted for.
use Rattle.std.specs.Prelude.{◌≡◌, ◌++◌, Bool, true, false, ℕ, ◌+◌, ◌-◌, ◌*◌, ◌/◌, ◌≤◌, ◌<◌, max, ltb, length, get_or, drop}
use Rattle.laws.specs.Count.{bit}
use Rattle.laws.specs.Occurs.{occurs}
use Rattle.assoc_matching.specs.Matching.{Pair, pair, boxes_of, tracks_of}
use Rattle.assoc_matching.specs.Account.{Distinct}
use Rattle.assoc_assignment.specs.Assignment.{Assignment}

-- the lists of an assignment whose pairs stand where they have ok: linear_assignment's, `valid_match iou tracks threshold`, are those with an IoU of at least the threshold
pub record Accounted (ok : Pair → Bool) (boxes tracks : ℕ) (a : Assignment) : Type 0 where
  -- pairs and unmatched boxes hold each box exactly once, and nothing else; the same for tracks
  pub boxes-whole : (b : ℕ) → occurs b (boxes_of a.matches ++ a.unmatched_detections) ≡ bit (ltb b boxes)
  pub tracks-whole : (t : ℕ) → occurs t (tracks_of a.matches ++ a.unmatched_tracks) ≡ bit (ltb t tracks)
  pub boxes-many : length a.matches + length a.unmatched_detections ≡ boxes
  pub tracks-many : length a.matches + length a.unmatched_tracks ≡ tracks
  -- no two pairs share a box or a track, and no index stands twice among the unmatched
  pub boxes-once : Distinct boxes (boxes_of a.matches)
  pub tracks-once : Distinct tracks (tracks_of a.matches)
  pub unmatched-boxes-once : Distinct boxes a.unmatched_detections
  pub unmatched-tracks-once : Distinct tracks a.unmatched_tracks
  -- every pair stands
  pub stands : (k : ℕ) → k < length a.matches → ok (get_or a.matches k (pair 0 0)) ≡ true
  -- the rejected pairs do not, and they are the last of both unmatched lists
  pub falls : (k : ℕ) → k < length a.rejected → ok (get_or a.rejected k (pair 0 0)) ≡ false
  pub rejected-boxes : drop (length a.unmatched_detections - length a.rejected) a.unmatched_detections ≡ boxes_of a.rejected
  pub rejected-tracks : drop (length a.unmatched_tracks - length a.rejected) a.unmatched_tracks ≡ tracks_of a.rejected
  -- the counts of lapjv on the larger side
  pub turns : a.turns ≤ 2 * max boxes tracks * (max boxes tracks - 1)
  pub scans : a.scans ≤ max boxes tracks * (max boxes tracks - 1) / 2
