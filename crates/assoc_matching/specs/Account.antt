-- What is proved of the definition alone, for at most 255 boxes and 255 tracks and costs of any bit patterns: no two pairs share a box or a track.
use Rattle.std.specs.Prelude.{◌≡◌, ℕ, ◌-◌, ◌*◌, ◌/◌, ◌<◌, ◌≤◌, min, max, List, length, slice_index}
use Rattle.assoc_matching.specs.Matching.{boxes_of, tracks_of, Matched}

-- different places hold different numbers, all of them below n
pub record Distinct (n : ℕ) (xs : List ℕ) : Type 0 where
  pub apart : (i j : ℕ) → i < length xs → j < length xs → slice_index xs i ≡ slice_index xs j → i ≡ j
  pub below : (i : ℕ) → i < length xs → slice_index xs i < n

-- the pairs of match_detections
pub record OneToOne (boxes tracks : ℕ) (a : Matched) : Type 0 where
  -- no two share a box or a track
  pub boxes-once : Distinct boxes (boxes_of a.matches)
  pub tracks-once : Distinct tracks (tracks_of a.matches)
  pub few : length a.matches ≤ min boxes tracks
  -- the counts of lapjv on the larger side
  pub turns : a.turns ≤ 2 * max boxes tracks * (max boxes tracks - 1)
  pub scans : a.scans ≤ max boxes tracks * (max boxes tracks - 1) / 2
