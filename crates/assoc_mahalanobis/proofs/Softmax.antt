-- mh_dist_similarity as the code takes it, in place and with each exponential computed once, is the definition. Assumes nothing.
use mathlib.Core.Path.{◌≡◌, refl, ap, ◌∙◌}
use mathlib.Core.Bool.{Bool, true, false, cond}
use mathlib.Core.List.{List, ◌++◌}
use Prim.Native.Nat.{ℕ, ◌+◌, ◌-◌, ◌*◌, ◌≤◌, ◌<◌}
use native.Mathlib.Nat.{add-sub_cancel_left}
use native.Mathlib.Omega.{arith}
use lib.Dec.{eqb}
use lib.ListN.{length, get_or, get_or-append, take, drop}
use lib.Seq.{drop_at, get_or-take, get_or-drop}
use lib.Ieee.{Float, nan, of_bits, neg, lt}
use Rattle.laws.specs.Fold.{fold, fold_more, fold_ext}
use Rattle.laws.specs.Tab.{tab, length-tab, tab-at, tab_ext}
use Rattle.laws.specs.Packed.{packed_kept}
use Rattle.laws.specs.Grid.{cell_at, grid, grid-at, grid-over, grid_ext, row_ends}
use Rattle.floats.specs.Single.{◌⊕◌, ◌⊖◌, ◌⊘◌, plus_zero, one}
use Rattle.floats.specs.Exponential.{exp}
use Rattle.floats.proofs.Unsigned.{exp_not_below}
use Rattle.assoc_mahalanobis.specs.Mahalanobis.{limit, exponential, normalized, similarity, mh_dist_similarity}
use Rattle.assoc_mahalanobis.specs.Private.{exp_of, summand, column_sum, share, shares}

-- ---- a cell

-- the mark is below zero, and no exponential is
marked : lt (neg one) plus_zero ≡ true
unfolding lt neg of_bits
marked = refl

-- a marked cell adds the exponential of 0 over the temperature
summand-is : (v temp : Float) → summand (exp_of v temp) (exp (plus_zero ⊘ temp)) ≡ exp (cond (lt limit v) plus_zero (limit ⊖ v) ⊘ temp)
unfolding exp_of summand
summand-is v temp = by_test (lt limit v)
  where
    by_test : (b : Bool) → cond (lt (cond b (neg one) (exp ((limit ⊖ v) ⊘ temp))) plus_zero) (exp (plus_zero ⊘ temp)) (cond b (neg one) (exp ((limit ⊖ v) ⊘ temp))) ≡ exp (cond b plus_zero (limit ⊖ v) ⊘ temp)
    by_test true = rw marked
    by_test false = rw (exp_not_below ((limit ⊖ v) ⊘ temp))

-- and has no share
share-is : (v temp sum : Float) → share (exp_of v temp) sum ≡ cond (eqb (cond (lt limit v) 0 1) 1) (exp (cond (lt limit v) plus_zero (limit ⊖ v) ⊘ temp) ⊘ sum) plus_zero
unfolding exp_of share
share-is v temp sum = by_test (lt limit v)
  where
    by_test : (b : Bool) → cond (lt (cond b (neg one) (exp ((limit ⊖ v) ⊘ temp))) plus_zero) plus_zero (cond b (neg one) (exp ((limit ⊖ v) ⊘ temp)) ⊘ sum) ≡ cond (eqb (cond b 0 1) 1) (exp (cond b plus_zero (limit ⊖ v) ⊘ temp) ⊘ sum) plus_zero
    by_test true = rw marked
    by_test false = rw (exp_not_below ((limit ⊖ v) ⊘ temp))

-- ---- the sums of the columns

-- what a loop that sums the columns of n rows of m cells knows when i rows are added
pub record Summing (matrix : List Float) (beyond : Float) (n m i : ℕ) (sums : List Float) : Type 0 where
  pub room : n * m ≤ length matrix
  pub cells : sums ≡ tab (column_sum beyond (cell_at nan m matrix) i) m
  pub same : length sums ≡ m

module _ {matrix : List Float} {beyond : Float} {n m : ℕ} {sums : List Float} where
  pub sum-start : n * m ≤ length matrix → sums ≡ tab (λ _. plus_zero) m → Summing matrix beyond n m 0 sums
  unfolding column_sum fold
  sum-start r e = record { room = r; cells = e; same = ap length e ∙ length-tab _ m }

  module _ {i : ℕ} (w : Summing matrix beyond n m i sums) (h : i < n) where
    pub sum_room : i * m + m ≤ length matrix
    sum_room = omega (arith, row_ends n m i h, w.room)

    row_cell : (j : ℕ) → j < m → get_or (take (i * m + m - i * m) (drop (i * m) matrix)) j nan ≡ cell_at nan m matrix i j
    row_cell j b = get_or-take (i * m + m - i * m) (drop (i * m) matrix) j nan (rw (add-sub_cancel_left (i * m) m) b) ∙ get_or-drop (i * m) matrix j nan

    pub sum-on : {next : List Float} → next ≡ tab (λ j. get_or sums j nan ⊕ summand (get_or (take (i * m + m - i * m) (drop (i * m) matrix)) j nan) beyond) (length sums)
        → Summing matrix beyond n m (i + 1) next
    unfolding column_sum
    sum-on {next} e =
        let added : next ≡ tab (column_sum beyond (cell_at nan m matrix) (i + 1)) m =
        e ∙ rw w.same
        (tab_ext _ _ m
        (λ j b. ap (λ (l : List Float). get_or l j nan ⊕ summand (get_or (take (i * m + m - i * m) (drop (i * m) matrix)) j nan) beyond) w.cells
        ∙ ap (λ (x : Float). x ⊕ summand (get_or (take (i * m + m - i * m) (drop (i * m) matrix)) j nan) beyond) (tab-at _ m j nan b)
        ∙ ap (λ (v : Float). column_sum beyond (cell_at nan m matrix) i j ⊕ summand v beyond) (row_cell j b)
        ∙ fold_more (λ sum k. sum ⊕ summand (cell_at nan m matrix k j) beyond) plus_zero i)) in
        record { room = w.room; cells = added; same = ap length added ∙ length-tab _ m }

-- ---- all of it

module _ (temp : Float) (n m : ℕ) (l : List Float) where
  abbrev exps : List Float
  exps = grid (λ i j. exp_of (cell_at nan m l i j) temp) n m l

  sums_are : (j : ℕ) → j < m → column_sum (exp (plus_zero ⊘ temp)) (cell_at nan m exps) n j ≡ normalized (cell_at nan m l) temp n j
  unfolding column_sum normalized
  sums_are j h =
      fold_ext _ _ plus_zero n
      (λ sum i b. ap (λ (x : Float). sum ⊕ x)
      (ap (λ (e : Float). summand e (exp (plus_zero ⊘ temp))) (grid-at (λ i j. exp_of (cell_at nan m l i j) temp) n m l nan i j b h) ∙ summand-is (cell_at nan m l i j) temp))

  cells_are : (sums : List Float) → sums ≡ tab (column_sum (exp (plus_zero ⊘ temp)) (cell_at nan m exps) n) m → (i j : ℕ) → i < n → j < m → shares (cell_at nan m exps) sums i j ≡ mh_dist_similarity l temp n m i j
  unfolding similarity
  cells_are sums e i j hi hj =
      ap (λ (x : Float). share x (get_or sums j nan)) (grid-at (λ i j. exp_of (cell_at nan m l i j) temp) n m l nan i j hi hj)
      ∙ ap (share (exp_of (cell_at nan m l i j) temp)) (ap (λ (r : List Float). get_or r j nan) e ∙ tab-at _ m j nan hj ∙ sums_are j hj)
      ∙ share-is (cell_at nan m l i j) temp (normalized (cell_at nan m l) temp n j)

  -- the shares over the exponentials are the similarities
  pub softmax : (out sums : List Float) (beyond : Float) → out ≡ exps → beyond ≡ exp (plus_zero ⊘ temp) → sums ≡ tab (column_sum beyond (cell_at nan m out) n) m
      → grid (shares (cell_at nan m out) sums) n m out ≡ grid (mh_dist_similarity l temp n m) n m l
  softmax out sums beyond e b f =
      rw e
      (grid_ext (shares (cell_at nan m exps) sums) n m exps (mh_dist_similarity l temp n m) (cells_are sums (rw (e, b) at f))
      ∙ grid-over (λ i j. exp_of (cell_at nan m l i j) temp) n m l (mh_dist_similarity l temp n m))

-- ---- distances that were copied

similarity_ext : (d e : ℕ → ℕ → Float) (temp : Float) (n m : ℕ) → ((i j : ℕ) → i < n → j < m → d i j ≡ e i j) → (i j : ℕ) → i < n → j < m → similarity d temp n i j ≡ similarity e temp n i j
unfolding similarity normalized
similarity_ext d e temp n m h i j hi hj =
    rw (h i j hi hj, fold_ext (λ sum k. sum ⊕ exponential d temp k j) (λ sum k. sum ⊕ exponential e temp k j) plus_zero n (λ sum k b. ap (λ (v : Float). sum ⊕ exp (cond (lt limit v) plus_zero (limit ⊖ v) ⊘ temp)) (h k j b hj)))

pub of_copied : (distance l out : List Float) (temp : Float) (n m : ℕ) → length distance ≡ n * m → out ≡ distance ++ drop (length distance) l
    → grid (mh_dist_similarity out temp n m) n m out ≡ grid (mh_dist_similarity distance temp n m) n m l
of_copied distance l out temp n m e f =
    let rest : drop (n * m) out ≡ drop (n * m) l = rw (f, ← e) (drop_at distance (drop (length distance) l) (length distance) refl) in
    grid_ext (mh_dist_similarity out temp n m) n m out (mh_dist_similarity distance temp n m)
    (similarity_ext (cell_at nan m out) (cell_at nan m distance) temp n m
    (λ i j hi hj. ap (λ (o : List Float). cell_at nan m o i j) f ∙ get_or-append distance _ nan (i * m + j) (let r = row_ends n m i hi in omega arith)))
    ∙ packed_kept _ m out l n rest
