-- What the contracts of the private functions of matching.rt cite. proofs/ shows that it comes to the definition.
use Rattle.std.specs.Prelude.{◌≡◌, ℕ, ◌*◌, ◌≤◌, min, max, List, Float}
use Rattle.laws.specs.Tab.{tab}
use Rattle.lapjv.specs.declared.Counts.{Counts}
use Rattle.assoc_matching.specs.Partners.{Sized, solution, counts_of, solved_column}

-- ---- the path by lapjv

-- a square of the larger side, and lapjv's two slices
pub record Whole (nrows ncols n work x y : ℕ) : Type 0 where
  pub side : n ≡ max nrows ncols
  pub some : 1 ≤ n
  pub long : work ≡ n * n
  pub long-x : x ≡ n
  pub long-y : y ≡ n

pub record Solution (cost : List Float) (n m : ℕ) (r : Counts) (partner : List ℕ) : Type 0 where
  pub counts : r ≡ counts_of (solution cost n m)
  pub partners : partner ≡ tab (solved_column cost n m) n

-- ---- both

-- what an accepted call of match_detections has been found to hold
pub record MatchReady (nrows ncols costs boxes tracks work : ℕ) : Type 0 where
  pub sides : Sized nrows ncols costs
  pub room-boxes : min nrows ncols ≤ boxes
  pub room-tracks : min nrows ncols ≤ tracks
  pub room-work : max nrows ncols * max nrows ncols ≤ work
