-- The direct path: the loops over a row's cells and over the rows, and what it leaves. Assumes nothing.
use mathlib.Core.Path.{◌≡◌, refl, sym, ap, ◌∙◌}
use mathlib.Core.List.{List, [], ◌∷◌}
use mathlib.Core.Bool.{Bool, true, false, cond, not, ◌&&◌}
use Prim.Native.Nat.{ℕ, zero, suc, max, ◌+◌, ◌-◌, ◌*◌, ◌≤◌, ◌<◌}
use native.Mathlib.Nat.{le_refl, le_trans}
use native.Mathlib.Omega.{arith}
use lib.Dec.{leb, eqb}
use lib.Ieee.{Float}
use lib.ListN.{length, get_or, set, take, replicate, length-replicate, get_or-replicate}
use lib.Seq.{length-take-le, get_or-take}
use borrow.Author.Tests.{eqb-true, le-ltb, eq-eqb, leb-true, le-leb}
use Rattle.std.proofs.Common.{leb-false}
use Rattle.std.proofs.lemmas.Bool.{lt-leb}
use Rattle.std.proofs.lemmas.List.Folds.{list_all-append}
use Rattle.std.specs.List.{list_all}
use Rattle.laws.specs.Tests.{false_not_true}
use Rattle.laws.specs.Tab.{tab, tab_ext, tab-at, tab_of, length-tab, Filling, fill_start, fill_on, fill_whole, fill_ahead}
use Rattle.laws.specs.Count.{bit, count_where, count_none, count-more, count-few}
use Rattle.laws.specs.Most.{most, Low, low-start, low-on, low_end, high}
use Rattle.laws.specs.Last.{last_where, last_none, last_more, last-few}
use Rattle.laws.specs.Grid.{row_ends}
use Rattle.refusals.specs.Refusal.{too_many}
use Rattle.refusals.proofs.Laws.{few-sides}
use Rattle.assoc_direct.specs.Simple.{above, mask, row_sum, col_sum, simple}
use Rattle.assoc_direct.specs.Rows.{direct_column, direct_columns, Sized, Clean}
use Rattle.assoc_direct.specs.Direct.{is_matrix, is_direct}
use Rattle.assoc_direct.specs.Private.{RowIn, RowOut, raised}

-- a local array, cut to its length
pub clean : {A : Type 0} (n k : ℕ) (z : A) → n ≤ k → Clean n z (take n (replicate k z))
clean n k z h = record {
  same = length-take-le n (replicate k z) (rw (length-replicate k z) h);
  cells = λ (i : ℕ) (l : i < n). get_or-take n (replicate k z) i z l ∙ get_or-replicate k i z z (omega arith);
}

-- at cell j of a row
pub record Summing (p : ℕ → Bool) (m : ℕ) (sums : List ℕ) (j sum : ℕ) (out : List ℕ) : Type 0 where
  pub sum_is : sum ≡ count_where p j
  pub cols : Filling (raised p sums) sums m j out

module _ (p : ℕ → Bool) (m : ℕ) (sums : List ℕ) where
  pub sum-start : Summing p m sums 0 0 sums
  sum-start = record { sum_is = count_none p; cols = fill_start _ _ _ }

  -- the next column's sum is as it was
  pub sum_same : {j sum : ℕ} {out : List ℕ} → Summing p m sums j sum out → get_or out j 0 ≡ get_or sums j 0
  sum_same w = fill_ahead _ _ _ w.cols 0

  pub sum-few : {j sum : ℕ} {out : List ℕ} → Summing p m sums j sum out → j < m → m ≤ 255 → sum < 255
  sum-few {j} {sum} w h l = omega (arith, w.sum_is, count-few p j)

  pub sum-on : {j sum sum' v : ℕ} {out : List ℕ} → Summing p m sums j sum out → j < m → length sums ≡ m
      → sum' ≡ sum + bit (p j) → v ≡ get_or out j 0 + bit (p j) → Summing p m sums (j + 1) sum' (set out j v)
  sum-on {j} w h l e g = record {
    sum_is = e ∙ rw w.sum_is (count-more p j);
    cols = fill_on _ _ _ w.cols h (omega arith) (g ∙ ap (λ (k : ℕ). k + bit (p j)) (sum_same w));
  }

  pub sum-end : {j sum : ℕ} {out : List ℕ} → Summing p m sums j sum out → m ≤ j → length sums ≡ m → RowOut p m sums sum out
  sum-end {j} {sum} {out} w h l =
      let e : j ≡ m = omega (arith, w.cols.upto) in
      record { sum_is = rw e at w.sum_is; cols = fill_whole _ _ _ w.cols h l }

-- row i lies within the matrix
pub row_inside : (n m : ℕ) {cells i : ℕ} → i < n → Sized n m cells → i * m + m ≤ cells
row_inside n m {cells} {i} h s = omega (arith, row_ends n m i h, s.long)

-- ---- a matrix

pub matrix : {n m cells : ℕ} → Sized n m cells → is_matrix n m cells ≡ true
unfolding is_matrix
matrix {n} {m} {cells} s = rw (le-ltb 255 n s.few-rows, le-ltb 255 m s.few-cols, eq-eqb cells (n * m) s.long)

pub sized : (n m cells : ℕ) → is_matrix n m cells ≡ true → Sized n m cells
unfolding is_matrix
sized n m cells e = by_cases (too_many n m) refl e
  where
    by_cases : (v : Bool) → too_many n m ≡ v → (not v && eqb cells (n * m)) ≡ true → Sized n m cells
    by_cases true f q = absurd (false_not_true q)
    by_cases false f q = let few = few-sides n m f in record { few-rows = few.0; few-cols = few.1; long = eqb-true cells (n * m) q }

module _ (cost : List Float) (n m : ℕ) (t : Float) where
  -- is_direct answers the definition's test of a matrix, and false of anything else
  pub decided : {v b : Bool} → v ≡ is_matrix n m (length cost) → v ≡ true → b ≡ simple cost n m t → b ≡ is_direct cost n m t
  unfolding is_direct
  decided e f d = d ∙ rw (sym e ∙ f)

  pub undecided : {v : Bool} → v ≡ is_matrix n m (length cost) → v ≡ false → false ≡ is_direct cost n m t
  unfolding is_direct
  undecided e f = rw (sym e ∙ f)

  direct_is : {b : Bool} → Sized n m (length cost) → b ≡ is_direct cost n m t → b ≡ simple cost n m t
  unfolding is_direct
  direct_is s e = e ∙ rw (matrix s)

  pub direct_open : {b : Bool} → Sized n m (length cost) → b ≡ is_direct cost n m t → b ≡ true → simple cost n m t ≡ true
  direct_open s e f = sym (direct_is s e) ∙ f

  pub direct_closed : {b : Bool} → Sized n m (length cost) → b ≡ is_direct cost n m t → b ≡ false → simple cost n m t ≡ false
  direct_closed s e f = sym (direct_is s e) ∙ f

module _ (cost : List Float) (m : ℕ) (t : Float) (partner : List ℕ) where
  pub columns_are : {v : Bool} {k : ℕ} → v ≡ is_matrix (length partner) m (length cost) → v ≡ true → length partner ≡ k → direct_columns cost m t partner ≡ tab (direct_column cost m t) k
  unfolding direct_columns
  columns_are e f l = rw (sym e ∙ f, l)

  pub columns_not : {v : Bool} → v ≡ is_matrix (length partner) m (length cost) → v ≡ false → direct_columns cost m t partner ≡ partner
  unfolding direct_columns
  columns_not e f = rw (sym e ∙ f)

-- ---- decided

-- each number is 1 at most where the largest is
all_low : (f : ℕ → ℕ) (n : ℕ) → list_all (λ s. leb s 1) (tab f n) ≡ leb (most f n) 1
unfolding tab most
all_low f zero = refl
all_low f (suc n) = list_all-append (λ s. leb s 1) (tab f n) (f n ∷ []) ∙ rw (all_low f n) (both (leb (most f n) 1) (leb (f n) 1) refl refl)
  where
    both : (u v : Bool) → leb (most f n) 1 ≡ u → leb (f n) 1 ≡ v → (u && (v && true)) ≡ leb (max (most f n) (f n)) 1
    both true true e g = sym (le-leb _ 1 (omega (arith, leb-true _ 1 e, leb-true _ 1 g)))
    both true false e g = sym (lt-leb _ 1 (omega (arith, leb-false _ 1 g)))
    both false v e g = sym (lt-leb _ 1 (omega (arith, leb-false _ 1 e)))

-- at row i
pub record Summed (cost : List Float) (n m : ℕ) (t : Float) (i : ℕ) (sums : List ℕ) : Type 0 where
  pub low : Low (row_sum cost m t) 1 n i
  pub cols : sums ≡ tab (col_sum cost i m t) m

module _ (cost : List Float) (n m : ℕ) (t : Float) where
  pub rows-begin : {sums : List ℕ} → Clean m 0 sums → Summed cost n m t 0 sums
  rows-begin {sums} z = record {
    low = low-start _ _ _;
    cols = tab_of (col_sum cost 0 m t) sums m 0 z.same (λ (j : ℕ) (h : j < m). z.cells j h ∙ count_none (λ i. mask cost m t i j));
  }

  pub rows_same : {i : ℕ} {sums : List ℕ} → Summed cost n m t i sums → length sums ≡ m
  rows_same {i} w = ap length w.cols ∙ length-tab (col_sum cost i m t) m

  pub rows_in : {i : ℕ} {sums : List ℕ} → Summed cost n m t i sums → i < n → Sized n m (length cost) → RowIn m sums
  rows_in {i} w h s = record {
    same = rows_same w;
    small = λ (j : ℕ) (q : j < m). rw (w.cols, tab-at (col_sum cost i m t) m j 0 q) (omega (arith, count-few (λ k. mask cost m t k j) i, s.few-rows));
  }

  pub rows_next : {i sum : ℕ} {sums sums' : List ℕ} → Summed cost n m t i sums → i < n
      → RowOut (above cost t (i * m)) m sums sum sums' → sum ≤ 1 → Summed cost n m t (i + 1) sums'
  rows_next {i} {sum} {sums} {sums'} w h o s = record {
    low = low-on _ _ _ w.low h o.sum_is s;
    cols = o.cols ∙ tab_ext (raised (mask cost m t i) sums) (col_sum cost (i + 1) m t) m
        (λ (j : ℕ) (q : j < m). rw (w.cols, tab-at (col_sum cost i m t) m j 0 q) (count-more (λ k. mask cost m t k j) i));
  }

  -- a row has more than one cost above the threshold
  pub direct_no : {i sum : ℕ} {sums sums' : List ℕ} → i < n → RowOut (above cost t (i * m)) m sums sum sums' → 1 < sum → false ≡ simple cost n m t
  unfolding simple
  direct_no h o s = rw (high (row_sum cost m t) 1 n h o.sum_is s)

  -- no row has, and the columns decide
  pub direct_end : {i : ℕ} {sums : List ℕ} {r : Bool} → Summed cost n m t i sums → n ≤ i → r ≡ list_all (λ s. leb s 1) sums → r ≡ simple cost n m t
  unfolding simple
  direct_end {i} {sums} {r} w h e =
      let q : i ≡ n = omega (arith, w.low.upto) in
      e ∙ rw (w.cols, all_low, q, low_end (row_sum cost m t) 1 n w.low h)

-- ---- a row's column

-- the last hit is before j
pub record Back (p : ℕ → Bool) (m j : ℕ) : Type 0 where
  pub upto : j ≤ m
  pub rest : last_where p m m ≡ last_where p m j

module _ (p : ℕ → Bool) (m : ℕ) where
  pub back-begin : Back p m m
  back-begin = record { upto = le_refl m; rest = refl }

  before : (j : ℕ) → 0 < j → j - 1 + 1 ≡ j
  before j h = omega arith

  step : {j : ℕ} → Back p m j → 0 < j → last_where p m m ≡ cond (p (j - 1)) (j - 1) (last_where p m (j - 1))
  step {j} w h = w.rest ∙ ap (last_where p m) (sym (before j h)) ∙ sym (last_more p m (j - 1))

  pub back_on : {j : ℕ} {r : Bool} → Back p m j → 0 < j → r ≡ p (j - 1) → r ≡ false → Back p m (j - 1)
  back_on {j} w h e f = record { upto = omega (arith, w.upto); rest = step w h ∙ rw (sym e ∙ f) }

  pub back_found : {j : ℕ} {r : Bool} → Back p m j → 0 < j → r ≡ p (j - 1) → r ≡ true → j - 1 ≡ last_where p m m
  back_found {j} w h e f = sym (step w h ∙ rw (sym e ∙ f))

  pub back_done : {j : ℕ} → Back p m j → j ≤ 0 → m ≡ last_where p m m
  back_done {j} w h = let e : j ≡ 0 = omega arith in last_none p m ∙ ap (last_where p m) (sym e) ∙ sym w.rest

pub column_fits : (p : ℕ → Bool) {m j : ℕ} → j ≡ last_where p m m → m ≤ 255 → j ≤ 255
column_fits p {m} e h = rw e (le_trans (last-few p m m (le_refl m)) h)
