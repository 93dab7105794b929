-- The direct path of `match_detections`: document 01, Pairs. Where it is taken, and, from assoc_direct, what deciding and writing it says and leaves.
use Rattle.std.specs.Prelude.{◌≡◌, ℕ, ◌+◌, ◌*◌, ◌<◌, max, true, List, slice_index_or, Float}
use Rattle.std.specs.Float.{nan}
use Rattle.std.specs.Float.Ieee.{lt}
use Rattle.lapjv_definition.specs.Lapjv.{lapjv}
use Rattle.assoc_matching.specs.Matching.{cost_vec, extracted, Matched, matched}
-- what is decided and written
pub use Rattle.assoc_direct.specs.Direct.{DirectCall, direct_call_of, direct_call_with}
unfoldable pub use Rattle.assoc_direct.specs.Direct.{is_matrix, is_direct, direct_call}

-- ---- where it is taken

-- the cost of row i and column j is strictly above the threshold
abbrev pub Above : List Float → ℕ → Float → ℕ → ℕ → Type 0
Above cost ncols threshold i j = lt threshold (slice_index_or cost (i * ncols + j) nan) ≡ true

-- no row and no column has more than one such cost
pub record OneAbove (cost : List Float) (nrows ncols : ℕ) (threshold : Float) : Type 0 where
  pub in_row : (i j k : ℕ) → i < nrows → j < ncols → k < ncols → Above cost ncols threshold i j → Above cost ncols threshold i k → j ≡ k
  pub in-column : (j i k : ℕ) → j < ncols → i < nrows → k < nrows → Above cost ncols threshold i j → Above cost ncols threshold k j → i ≡ k

-- elsewhere the matches are those of lapjv on the square, and so are the counts
abbrev pub by_lapjv : List Float → ℕ → ℕ → Matched
by_lapjv cost nrows ncols =
    let n = max nrows ncols in
    let a = lapjv n (cost_vec cost nrows ncols n) in
    matched (extracted a.x n nrows ncols) a.turns a.scans
