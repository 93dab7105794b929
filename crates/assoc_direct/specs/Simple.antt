-- The first part of `match_detections` of assoc.rs: pairs of boxes (rows) and tracks (columns) from a matrix of costs, flat and row by row, and the simple one_to_one matching with its test.
use Rattle.std.specs.Prelude.{List, map, Bool, ◌&&◌, ℕ, ◌+◌, ◌*◌, leb, Float, get_or}
use Rattle.std.specs.Float.{nan}
use Rattle.std.specs.Float.Ieee.{lt}
use Rattle.laws.specs.Tab.{indices}
use Rattle.laws.specs.Sieve.{sieve}
use Rattle.laws.specs.Joined.{joined}
use Rattle.laws.specs.Count.{count_where}
use Rattle.laws.specs.Most.{most}

-- (usize, usize)
pub record Pair : Type 0 where
  pub box : ℕ
  pub track : ℕ

abbrev pub pair : ℕ → ℕ → Pair
pair i j = record { box = i; track = j }

abbrev pub boxes_of : List Pair → List ℕ
boxes_of ps = map (λ (p : Pair). p.box) ps

abbrev pub tracks_of : List Pair → List ℕ
tracks_of ps = map (λ (p : Pair). p.track) ps

-- the cell j of the row that starts at the flat place `at` is above the threshold
unfoldable pub above : List Float → Float → ℕ → ℕ → Bool
above cost threshold at j = lt threshold (get_or cost (at + j) nan)

-- mask[(i, j)] == 1
abbrev pub mask : List Float → ℕ → Float → ℕ → ℕ → Bool
mask cost ncols threshold i j = above cost threshold (i * ncols) j

-- row_sums[i] and col_sums[j]. They are u8 in the Rust, which at most 255 rows and columns never overflow.
abbrev pub row_sum : List Float → ℕ → Float → ℕ → ℕ
row_sum cost ncols threshold i = count_where (mask cost ncols threshold i) ncols

abbrev pub col_sum : List Float → ℕ → ℕ → Float → ℕ → ℕ
col_sum cost nrows ncols threshold j = count_where (λ i. mask cost ncols threshold i j) nrows

-- max_row_sum <= 1 && max_col_sum <= 1
unfoldable pub simple : List Float → ℕ → ℕ → Float → Bool
simple cost nrows ncols threshold =
    let max_row_sum = most (row_sum cost ncols threshold) nrows in
    let max_col_sum = most (col_sum cost nrows ncols threshold) ncols in
    leb max_row_sum 1 && leb max_col_sum 1

-- the simple one_to_one matching: the cells of the mask, row by row
unfoldable pub simple_matches : List Float → ℕ → ℕ → Float → List Pair
simple_matches cost nrows ncols threshold = joined (λ i. map (pair i) (sieve (mask cost ncols threshold i) (indices ncols))) nrows
