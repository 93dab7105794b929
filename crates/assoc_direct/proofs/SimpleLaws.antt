-- The direct path row by row: it gives each row a column or none, and no column twice. Assumes nothing.
use mathlib.Core.Path.{◌≡◌, sym, ap, ◌∙◌}
use mathlib.Core.List.{List, map}
use mathlib.Core.Bool.{true}
use Prim.Native.Nat.{ℕ, ◌≤◌, ◌<◌}
use native.Mathlib.Nat.{le_refl, le_trans}
use lib.Dec.{ltb, leb, eqb}
use lib.Ieee.{Float}
use borrow.Author.Tests.{eqb-true}
use Rattle.laws.specs.Tests.{and_left, and_right}
use Rattle.laws.specs.Tab.{indices}
use Rattle.laws.specs.Sieve.{sieve}
use Rattle.laws.specs.Joined.{joined_ext}
use Rattle.laws.specs.Count.{count_mono}
use Rattle.laws.specs.Most.{most, low-at}
use Rattle.laws.specs.Last.{last_where, last-hit, sieve-last}
use Rattle.assoc_direct.specs.Simple.{pair, mask, row_sum, col_sum, simple, simple_matches}
use Rattle.assoc_direct.specs.Rows.{pairs_of, direct_column}
use Rattle.assoc_direct.proofs.PairLaws.{paired, map-maybe, Apart}

module _ (cost : List Float) (n m : ℕ) (t : Float) where
  pub rows-low : simple cost n m t ≡ true → (i : ℕ) → i < n → row_sum cost m t i ≤ 1
  unfolding simple
  rows-low e = low-at (row_sum cost m t) 1 n (and_left (leb (most (row_sum cost m t) n) 1) (leb (most (col_sum cost n m t) m) 1) e)

  pub cols-low : simple cost n m t ≡ true → (j : ℕ) → j < m → col_sum cost n m t j ≤ 1
  unfolding simple
  cols-low e = low-at (col_sum cost n m t) 1 m (and_right (leb (most (row_sum cost m t) n) 1) (leb (most (col_sum cost n m t) m) 1) e)

  pub simple-pairs : simple cost n m t ≡ true → simple_matches cost n m t ≡ pairs_of m (direct_column cost m t) n
  unfolding simple_matches pairs_of
  simple-pairs e =
      joined_ext (λ i. map (pair i) (sieve (mask cost m t i) (indices m))) (λ i. paired m i (last_where (mask cost m t i) m m)) n
      (λ (i : ℕ) (h : i < n). ap (map (pair i)) (sieve-last (mask cost m t i) m m (le_refl m) (rows-low e i h)) ∙ map-maybe (pair i) (ltb (last_where (mask cost m t i) m m) m) (last_where (mask cost m t i) m m))

  pub apart-simple : simple cost n m t ≡ true → Apart m (direct_column cost m t) n
  apart-simple e k h =
      le_trans
      (count_mono (λ i. eqb k (last_where (mask cost m t i) m m)) (λ i. mask cost m t i k) n (λ (i : ℕ) (l : i < n) q.
      let s : k ≡ last_where (mask cost m t i) m m = eqb-true k (last_where (mask cost m t i) m m) q in rw s (last-hit (mask cost m t i) m m (le_refl m) (rw (sym s) h))))
      (cols-low e k h)
