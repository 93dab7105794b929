-- `match_detections` of assoc.rs, lines 448-532: pairs of boxes (rows) and tracks (columns) from a matrix of costs, flat and row by row.
use Rattle.std.specs.Prelude.{⊤, Result, Ok, Err, ◌≡◌, ℕ, ◌+◌, ◌*◌, max, Bool, true, false, cond, ◌&&◌, ◌||◌, List, [], length, pos, ◌==◌, nat_lt, slice_index, slice_index_or, refl, Float}
use Rattle.std.specs.Float.{nan, binary64}
use Rattle.std.specs.Float.Ieee.{sub, mul, neg, of_bits, of_int, round}
use Rattle.laws.specs.Tab.{tab}
use Rattle.laws.specs.Sieve.{maybe}
use Rattle.laws.specs.Joined.{joined}
use Rattle.lapjv_definition.specs.Lapjv.{lapjv}
use Rattle.lapjv.specs.Answers.{verdict_of}
use Rattle.lapjv.specs.declared.Refusal.{Refusal}
-- the pairs, and the simple one_to_one matching with its test
pub use Rattle.assoc_direct.specs.Simple.{Pair, pair, boxes_of, tracks_of, mask, row_sum, col_sum}
unfoldable pub use Rattle.assoc_direct.specs.Simple.{above, simple, simple_matches}

-- 1e6 and 1e-12, by their bits as the code has them
abbrev pub large_cost : Float
large_cost = of_bits binary64 0x412e_8480_0000_0000

abbrev pub tie_break_eps : Float
tie_break_eps = of_bits binary64 0x3d71_9799_812d_ea11

-- and what they are: the whole number, and the f64 nearest to 1 / 10^12
pub constants : (large_cost ≡ of_int binary64 (pos 1000000)) × (tie_break_eps ≡ round binary64 false 1 1000000000000)
unfolding of_bits of_int round
constants = (refl, refl)

-- cost_vec[i][j]: the cost negated, which as f64 is the same number, less the tie break; large outside of the costs
unfoldable pub cost_cell : List Float → ℕ → ℕ → ℕ → ℕ → Float
cost_cell cost nrows ncols i j =
    cond (nat_lt i nrows && nat_lt j ncols)
    (sub binary64 (neg (slice_index_or cost (i * ncols + j) nan)) (mul binary64 tie_break_eps (of_int binary64 (pos i))))
    large_cost

unfoldable pub cost_vec : List Float → ℕ → ℕ → ℕ → List Float
cost_vec cost nrows ncols n = joined (λ i. tab (cost_cell cost nrows ncols i) n) n

-- i < nrows && j >= 0 && (j as usize) < ncols, where n stands for the -1 of lapjv
unfoldable pub extract : ℕ → ℕ → ℕ → ℕ → ℕ → List Pair
extract n nrows ncols i j = maybe (nat_lt i nrows && (nat_lt j n && nat_lt j ncols)) (pair i j)

-- for (i, &j) in x.iter().enumerate(), with x of n entries
unfoldable pub extracted : List ℕ → ℕ → ℕ → ℕ → List Pair
extracted x n nrows ncols = joined (λ i. extract n nrows ncols i (slice_index x i)) n

-- the matches, and the counts that the port adds: 0 where lapjv is not called
pub record Matched : Type 0 where
  pub matches : List Pair
  pub turns : ℕ
  pub scans : ℕ

abbrev pub matched : List Pair → ℕ → ℕ → Matched
matched matches turns scans = record { matches = matches; turns = turns; scans = scans }

abbrev pub unfit : Result ⊤ Refusal → Bool
unfit (Ok _) = false
unfit (Err why) = true

-- lapjv(&mut cost_vec, &mut x, &mut y).is_err(), with x and y of n entries: the sizes do not fit, or its ret is above 0
unfoldable pub is_err : ℕ → List Float → Bool
is_err n costs = unfit (verdict_of n (length costs) n n) || nat_lt 0 (lapjv n costs).ret

unfoldable pub match_detections : List Float → ℕ → ℕ → Float → Matched
match_detections cost nrows ncols threshold =
    let n = max nrows ncols in
    let costs = cost_vec cost nrows ncols n in
    let a = lapjv n costs in
    cond (nrows == 0 || ncols == 0) (matched [] 0 0)
    (cond (simple cost nrows ncols threshold) (matched (simple_matches cost nrows ncols threshold) 0 0)
    (cond (is_err n costs) (matched [] 0 0)
    (matched (extracted a.x n nrows ncols) a.turns a.scans)))
