-- The pairs of match_detections by rows: at most one for each box, in their order, so that a track for each box is the whole of them. proofs/PartnerLaws shows it, `matches_are`.
use Rattle.std.specs.Prelude.{◌≡◌, ℕ, ◌*◌, ◌≤◌, max, cond, List, nat_lt, slice_index, Float}
use Rattle.laws.specs.Tab.{tab}
use Rattle.lapjv_definition.specs.Lapjv.{lapjv, Assignment as Solved}
use Rattle.lapjv.specs.declared.Counts.{Counts}
use Rattle.assoc_matching.specs.Matching.{simple, cost_vec, Matched, matched}
-- sides, pairs by rows and pairs written, and the columns of the direct path
pub use Rattle.assoc_direct.specs.Rows.{Sized, Clean, held, direct_column, putting, Put, PairRoom, Wrote}
unfoldable pub use Rattle.assoc_direct.specs.Rows.{pairs_of, direct_columns}

-- ---- a column for each row, ncols for none

-- j, if it is a column
abbrev pub column : ℕ → ℕ → ℕ
column ncols j = cond (nat_lt j ncols) j ncols

-- the assignment of the square
abbrev pub solution : List Float → ℕ → ℕ → Solved
solution cost nrows ncols = lapjv (max nrows ncols) (cost_vec cost nrows ncols (max nrows ncols))

abbrev pub counts_of : Solved → Counts
counts_of a = record { turns = a.turns; scans = a.scans }

-- a row's column on the path by lapjv
abbrev pub solved_column : List Float → ℕ → ℕ → ℕ → ℕ
solved_column cost nrows ncols i = column ncols (slice_index (solution cost nrows ncols).x i)

-- the matches of the path by lapjv
abbrev pub solved_match : List Float → ℕ → ℕ → Matched
solved_match cost nrows ncols = matched (pairs_of ncols (solved_column cost nrows ncols) nrows) (solution cost nrows ncols).turns (solution cost nrows ncols).scans

-- on either
abbrev pub partner_of : List Float → ℕ → ℕ → Float → ℕ → ℕ
partner_of cost nrows ncols threshold i = cond (simple cost nrows ncols threshold) (direct_column cost ncols threshold i) (solved_column cost nrows ncols i)

abbrev pub counts_for : List Float → ℕ → ℕ → Float → Counts
counts_for cost nrows ncols threshold = cond (simple cost nrows ncols threshold) (record { turns = 0; scans = 0 }) (counts_of (solution cost nrows ncols))

-- what an accepted call of lapjv_partners has been found to hold
pub record PartnerReady (nrows ncols costs partners work : ℕ) : Type 0 where
  pub sides : Sized nrows ncols costs
  pub rows : partners ≡ nrows
  pub some : 1 ≤ max nrows ncols
  pub room-work : max nrows ncols * max nrows ncols ≤ work

-- what is found on either path
pub record Partnered (cost : List Float) (n m : ℕ) (t : Float) (r : Counts) (partner : List ℕ) : Type 0 where
  pub counts : r ≡ counts_for cost n m t
  pub partners : partner ≡ tab (partner_of cost n m t) n
