-- The loops of ccrt_dense, pass by pass, for the loops of the code. Assumes nothing.
use mathlib.Core.Path.{◌≡◌, sym, ap, ◌∙◌}
use mathlib.Core.Bool.{Bool, true, false, cond}
use mathlib.Core.List.{List}
use Prim.Native.Nat.{ℕ, suc, ◌+◌, ◌-◌, ◌<◌, ◌≤◌}
use native.Mathlib.Omega.{arith}
use native.Mathlib.Nat.{sub-zero}
use lib.ListN.{length, get_or, set}
use lib.Seq.{get_or-set_other}
use lib.Ieee.{Float, nan}
use Rattle.laws.specs.Fuel.{fuel_suc, fuel_zero}
use Rattle.lapjv_definition.specs.Ccrt.{Prices, prices, row_step, row_from, rows_from, Taken, taken, col_step, cols_from, min_step, min_from, Reduced, reduced, reduce_step, reduce_from}
use Rattle.lapjv_definition.specs.Cost.{at, ◌⊖◌, large}
use Rattle.lapjv_definition.specs.Entry.{owner_of, is_free, row_of}

-- ---- one row's prices

pub record RowInv (n : ℕ) (cost : List Float) (i : ℕ) (R : Prices) (j : ℕ) (y : List ℕ) (v : List Float) : Type 0 where
  pub to : j ≤ n
  pub len_y : length y ≡ n
  pub len_v : length v ≡ n
  pub rest : row_from n cost i (n - j) j (prices y v) ≡ R

row_next : (n : ℕ) (cost : List Float) (i j : ℕ) (y : List ℕ) (v : List Float) → j < n
    → row_from n cost i (n - j) j (prices y v) ≡ row_from n cost i (n - (j + 1)) (j + 1) (row_step i j (at cost n i j) y v)
unfolding row_from
row_next n cost i j y v h = rw (fuel_suc n j h)

pub row_again : {n : ℕ} {cost : List Float} {i : ℕ} {R : Prices} {j : ℕ} {y y' : List ℕ} {v v' : List Float} → RowInv n cost i R j y v → j < n
    → prices y' v' ≡ row_step i j (at cost n i j) y v → length y' ≡ length y → length v' ≡ length v → RowInv n cost i R (j + 1) y' v'
row_again {n} {cost} {i} {R} {j} {y} {y'} {v} {v'} inv h e ly lv = record {
  to = omega arith;
  len_y = ly ∙ inv.len_y;
  len_v = lv ∙ inv.len_v;
  rest = rw e (sym (row_next n cost i j y v h) ∙ inv.rest);
}

pub row_done : {n : ℕ} {cost : List Float} {i : ℕ} {R : Prices} {j : ℕ} {y : List ℕ} {v : List Float} → RowInv n cost i R j y v → n ≤ j → prices y v ≡ R
unfolding row_from
row_done {n} {j = j} inv h = rw (fuel_zero n j h) at inv.rest

-- ---- every row's

pub record RowsInv (n : ℕ) (cost : List Float) (R : Prices) (i : ℕ) (y : List ℕ) (v : List Float) : Type 0 where
  pub to : i ≤ n
  pub len_y : length y ≡ n
  pub len_v : length v ≡ n
  pub rest : rows_from n cost (n - i) i (prices y v) ≡ R

rows_next : (n : ℕ) (cost : List Float) (i : ℕ) (s : Prices) → i < n → rows_from n cost (n - i) i s ≡ rows_from n cost (n - (i + 1)) (i + 1) (row_from n cost i n 0 s)
unfolding rows_from
rows_next n cost i s h = rw (fuel_suc n i h)

pub rows_again : {n : ℕ} {cost : List Float} {R : Prices} {i : ℕ} {y y' : List ℕ} {v v' : List Float} → RowsInv n cost R i y v → i < n
    → prices y' v' ≡ row_from n cost i n 0 (prices y v) → length y' ≡ length y → length v' ≡ length v → RowsInv n cost R (i + 1) y' v'
rows_again {n} {cost} {R} {i} {y} {y'} {v} {v'} inv h e ly lv = record {
  to = omega arith;
  len_y = ly ∙ inv.len_y;
  len_v = lv ∙ inv.len_v;
  rest = rw e (sym (rows_next n cost i (prices y v) h) ∙ inv.rest);
}

pub rows-done : {n : ℕ} {cost : List Float} {R : Prices} {i : ℕ} {y : List ℕ} {v : List Float} → RowsInv n cost R i y v → n ≤ i → prices y v ≡ R
unfolding rows_from
rows-done {n} {i = i} inv h = rw (fuel_zero n i h) at inv.rest

pub rows_start : {n : ℕ} {cost : List Float} {y : List ℕ} {v : List Float} → length y ≡ n → length v ≡ n
    → RowsInv n cost (rows_from n cost n 0 (prices y v)) 0 y v
rows_start {n} ly lv = record { to = omega arith; len_y = ly; len_v = lv; rest = rw (sub-zero n) }

-- ---- the columns, from the last

pub record ColsInv (n : ℕ) (R : Taken) (j : ℕ) (x y : List ℕ) (u : List Bool) : Type 0 where
  pub to : j ≤ n
  pub len_x : length x ≡ n
  pub len_y : length y ≡ n
  pub len_u : length u ≡ n
  pub rows : (k : ℕ) → k < j → get_or y k 0 < n
  pub rest : cols_from n j (taken x y u) ≡ R

cols-next : (n j j' : ℕ) (x y : List ℕ) (u : List Bool) → j ≡ suc j' → cols_from n j (taken x y u) ≡ cols_from n j' (col_step n j' (row_of n (owner_of n (get_or y j' 0))) x y u)
unfolding cols_from
cols-next n j j' x y u e = rw e

col_step-rows : (n j i : ℕ) (x y : List ℕ) (u : List Bool) → ((k : ℕ) → k < j → get_or y k 0 < n) → (k : ℕ) → k < j → get_or (col_step n j i x y u).y k 0 < n
col_step-rows n j i x y u h k hk = go (is_free (owner_of n (get_or x i 0)))
  where
    go : (b : Bool) → get_or (cond b (taken (set x i j) y u) (taken x (set y j n) (set u i false))).y k 0 < n
    go true = h k hk
    go false = rw (get_or-set_other y j k n 0 (λ e. omega arith)) (h k hk)

pub cols_again : {n : ℕ} {R : Taken} {j : ℕ} {x y : List ℕ} {u : List Bool} {x' y' : List ℕ} {u' : List Bool} → ColsInv n R j x y u → 0 < j
    → taken x' y' u' ≡ col_step n (j - 1) (row_of n (owner_of n (get_or y (j - 1) 0))) x y u → length x' ≡ length x → length y' ≡ length y → length u' ≡ length u
    → ColsInv n R (j - 1) x' y' u'
cols_again {n} {R} {j} {x} {y} {u} {x'} {y'} {u'} inv h e lx ly lu = record {
  to = omega arith;
  len_x = lx ∙ inv.len_x;
  len_y = ly ∙ inv.len_y;
  len_u = lu ∙ inv.len_u;
  rows = λ k hk. rw (ap (λ (s : Taken). s.y) e) (col_step-rows n (j - 1) (row_of n (owner_of n (get_or y (j - 1) 0))) x y u (λ k h. inv.rows k (omega arith)) k hk);
  rest = rw e (sym (cols-next n j (j - 1) x y u (omega arith)) ∙ inv.rest);
}

pub cols-done : {n : ℕ} {R : Taken} {j : ℕ} {x y : List ℕ} {u : List Bool} → ColsInv n R j x y u → j ≤ 0 → taken x y u ≡ R
unfolding cols_from
cols-done {j = j} inv h = let e : j ≡ 0 = omega arith in rw e at inv.rest

-- ---- the least of a row

pub record MinInv (n : ℕ) (cost : List Float) (i j : ℕ) (v : List Float) (R : Float) (k : ℕ) (m : Float) : Type 0 where
  pub to : k ≤ n
  pub rest : min_from n cost i j v (n - k) k m ≡ R

min_next : (n : ℕ) (cost : List Float) (i j : ℕ) (v : List Float) (k : ℕ) (m : Float) → k < n
    → min_from n cost i j v (n - k) k m ≡ min_from n cost i j v (n - (k + 1)) (k + 1) (min_step j k (at cost n i k ⊖ get_or v k nan) m)
unfolding min_from
min_next n cost i j v k m h = rw (fuel_suc n k h)

pub min_again : {n : ℕ} {cost : List Float} {i j : ℕ} {v : List Float} {R : Float} {k : ℕ} {m m' : Float} → MinInv n cost i j v R k m → k < n
    → m' ≡ min_step j k (at cost n i k ⊖ get_or v k nan) m → MinInv n cost i j v R (k + 1) m'
min_again {n} {cost} {i} {j} {v} {R} {k} {m} inv h e = record { to = omega arith; rest = rw e (sym (min_next n cost i j v k m h) ∙ inv.rest) }

pub min_done : {n : ℕ} {cost : List Float} {i j : ℕ} {v : List Float} {R : Float} {k : ℕ} {m : Float} → MinInv n cost i j v R k m → n ≤ k → m ≡ R
unfolding min_from
min_done {n} {k = k} inv h = rw (fuel_zero n k h) at inv.rest

-- ---- the free rows

pub record RedInv (n : ℕ) (cost : List Float) (x : List ℕ) (u : List Bool) (R : Reduced) (i k : ℕ) (free_rows : List ℕ) (v : List Float) : Type 0 where
  pub to : i ≤ n
  pub low : k ≤ i
  pub len_free : length free_rows ≡ n
  pub len_v : length v ≡ n
  pub rest : reduce_from n cost x u (n - i) i (reduced free_rows k v) ≡ R

red_next : (n : ℕ) (cost : List Float) (x : List ℕ) (u : List Bool) (i k : ℕ) (free_rows : List ℕ) (v : List Float) → i < n
    → reduce_from n cost x u (n - i) i (reduced free_rows k v) ≡ reduce_from n cost x u (n - (i + 1)) (i + 1) (reduce_step n cost i (get_or x i 0) (get_or u i false) free_rows k v)
unfolding reduce_from
red_next n cost x u i k free_rows v h = rw (fuel_suc n i h)

step_low : (n : ℕ) (cost : List Float) (i xi : ℕ) (u : Bool) (free_rows : List ℕ) (k : ℕ) (v : List Float) → k ≤ i → (reduce_step n cost i xi u free_rows k v).n_free_rows ≤ i + 1
step_low n cost i xi u free_rows k v h = go (is_free (owner_of n xi)) u
  where
    go : (b u : Bool) → (cond b (reduced (set free_rows k i) (k + 1) v) (cond u (reduced free_rows k (set v (row_of n (owner_of n xi)) (get_or v (row_of n (owner_of n xi)) nan ⊖ min_from n cost i (row_of n (owner_of n xi)) v n 0 large))) (reduced free_rows k v))).n_free_rows ≤ i + 1
    go true u = omega arith
    go false true = omega arith
    go false false = omega arith

pub red_again : {n : ℕ} {cost : List Float} {x : List ℕ} {u : List Bool} {R : Reduced} {i k k' : ℕ} {free_rows free_rows' : List ℕ} {v v' : List Float} → RedInv n cost x u R i k free_rows v → i < n
    → reduced free_rows' k' v' ≡ reduce_step n cost i (get_or x i 0) (get_or u i false) free_rows k v → length free_rows' ≡ length free_rows → length v' ≡ length v → RedInv n cost x u R (i + 1) k' free_rows' v'
red_again {n} {cost} {x} {u} {R} {i} {k} {k'} {free_rows} {free_rows'} {v} {v'} inv h e lf lv = record {
  to = omega arith;
  low = rw (ap (λ (s : Reduced). s.n_free_rows) e) (step_low n cost i (get_or x i 0) (get_or u i false) free_rows k v inv.low);
  len_free = lf ∙ inv.len_free;
  len_v = lv ∙ inv.len_v;
  rest = rw e (sym (red_next n cost x u i k free_rows v h) ∙ inv.rest);
}

pub red_done : {n : ℕ} {cost : List Float} {x : List ℕ} {u : List Bool} {R : Reduced} {i k : ℕ} {free_rows : List ℕ} {v : List Float} → RedInv n cost x u R i k free_rows v → n ≤ i → reduced free_rows k v ≡ R
unfolding reduce_from
red_done {n} {i = i} inv h = rw (fuel_zero n i h) at inv.rest
