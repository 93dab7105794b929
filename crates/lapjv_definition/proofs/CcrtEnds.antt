-- ccrt_dense, of the definition alone: each row is once some column's or once free, and not all are free. Assumes nothing.
use mathlib.Core.Path.{◌≡◌, refl, sym, ap, ◌∙◌, subst}
use mathlib.Core.Bool.{Bool, true, false, cond}
use mathlib.Core.List.{List}
use Prim.Native.Nat.{ℕ, zero, suc, ◌+◌, ◌-◌, ◌<◌, ◌≤◌}
use native.Mathlib.Omega.{arith}
use native.Mathlib.Decide.{ℕ_discrete, dec_lt}
use native.Mathlib.Nat.{zero-add}
use native.Mathlib.Numerals.{add-one}
use lib.ListN.{length, get_or, set, length-set}
use lib.Seq.{get_or-set_same, get_or-set_other}
use lib.Ieee.{Float, nan, lt}
use Rattle.laws.specs.Tab.{tab, length-tab, tab-at}
use Rattle.laws.specs.Total.{total, is, total-in, total-out, total_snoc, total_cons, is_same, is_other}
use Rattle.lapjv_definition.specs.Ccrt.{Prices, prices, row_step, row_from, rows_from, Taken, col_step, cols_from, Reduced, reduced, reduce_step, reduce_from, min_from, taken as taken_at}
use Rattle.lapjv_definition.specs.Cost.{at as cost_at, ◌⊖◌, large}
use Rattle.lapjv_definition.specs.Entry.{owner_of, is_free, row_of}
use Rattle.lapjv_definition.specs.Invariant.{taken}
use Rattle.lapjv_definition.proofs.EntryLaws.{free_true, free_false, row_is}
use Rattle.lapjv_definition.proofs.SearchLaws.{taken-row, taken_none}

pub record ColOk (n j : ℕ) (s : Taken) : Type 0 where
  pub to : j ≤ n
  pub len_x : length s.x ≡ n
  pub len_y : length s.y ≡ n
  pub rows : (k : ℕ) → k < j → get_or s.y k 0 < n
  pub once : (a : ℕ) → a < n → total (is a) s.y (n - j) j ≡ taken n (get_or s.x a 0)
  pub sum : total (taken n) s.y (n - j) j ≡ total (taken n) s.x n 0
  pub back : (k : ℕ) → j ≤ k → k < n → get_or s.y k 0 < n → get_or s.x (get_or s.y k 0) 0 ≡ k
  pub new : j ≡ n → (a : ℕ) → a < n → n ≤ get_or s.x a 0
  pub last : j < n → 1 ≤ total (taken n) s.x n 0

module _ (n j : ℕ) (s : Taken) (o : ColOk n (j + 1) s) where
  abbrev i : ℕ
  i = get_or s.y j 0

  iy : i < n
  iy = o.rows j (omega arith)

  fuel : n - j ≡ suc (n - (j + 1))
  fuel = omega (arith, o.to)

  give : n ≤ get_or s.x i 0 → ColOk n j (taken_at (set s.x i j) s.y s.unique)
  give h = record {
    to = omega (arith, o.to);
    len_x = length-set s.x i j ∙ o.len_x;
    len_y = o.len_y;
    rows = λ k hk. o.rows k (omega arith);
    once = λ a ha. total_cons (is a) s.y (n - j) (n - (j + 1)) j fuel ∙ counts a ha (ℕ_discrete a i);
    sum = total_cons (taken n) s.y (n - j) (n - (j + 1)) j fuel ∙ omega (arith, o.sum, xs, taken-row n i iy, taken-row n j (omega (arith, o.to)), taken_none n (get_or s.x i 0) h, iy_is);
    back = λ k jk kn hy. go k jk kn hy (ℕ_discrete k j);
    new = λ e. absurd (omega (arith, o.to));
    last = λ q. omega (arith, xs, taken-row n j (omega (arith, o.to)), taken_none n (get_or s.x i 0) h);
  }
    where
      iy_is : taken n (get_or s.y j 0) ≡ 1
      iy_is = taken-row n (get_or s.y j 0) (o.rows j (omega arith))

      xs : total (taken n) (set s.x i j) n 0 + taken n (get_or s.x i 0) ≡ total (taken n) s.x n 0 + taken n j
      xs = total-in (taken n) s.x n 0 i j (omega (arith, iy, o.len_x)) (omega arith) (omega (arith, iy))

      counts : (a : ℕ) → a < n → Dec (a ≡ i) → is a (get_or s.y j 0) + total (is a) s.y (n - (j + 1)) (j + 1) ≡ taken n (get_or (set s.x i j) a 0)
      counts a ha (yes e) = rw (e, get_or-set_same s.x i j 0 (omega (arith, iy, o.len_x))) (omega (arith, is_same i (get_or s.y j 0) refl, o.once i iy, taken_none n (get_or s.x i 0) h, taken-row n j (omega (arith, o.to))))
      counts a ha (no e) = rw (get_or-set_other s.x i a j 0 e) (omega (arith, is_other a (get_or s.y j 0) e, o.once a ha))

      go : (k : ℕ) → j ≤ k → k < n → get_or s.y k 0 < n → Dec (k ≡ j) → get_or (set s.x i j) (get_or s.y k 0) 0 ≡ k
      go k jk kn hy (yes e) = rw (e, get_or-set_same s.x i j 0 (omega (arith, iy, o.len_x)))
      go k jk kn hy (no e) =
          let b = o.back k (omega arith) kn hy in
          rw (get_or-set_other s.x i (get_or s.y k 0) j 0 (λ q. omega (arith, h, b, ap (λ (z : ℕ). get_or s.x z 0) q))) b

  -- a column whose row has one already
  drop : get_or s.x i 0 < n → ColOk n j (taken_at s.x (set s.y j n) (set s.unique i false))
  drop h = record {
    to = omega (arith, o.to);
    len_x = o.len_x;
    len_y = length-set s.y j n ∙ o.len_y;
    rows = λ k hk. rw (get_or-set_other s.y j k n 0 (λ e. omega arith)) (o.rows k (omega arith));
    once = λ a ha. total_cons (is a) (set s.y j n) (n - j) (n - (j + 1)) j fuel
        ∙ rw (get_or-set_same s.y j n 0 (omega (arith, o.len_y, o.to)), total-out (is a) s.y (n - (j + 1)) (j + 1) j n (λ k p q e. omega arith)) (omega (arith, is_other a n (λ e. omega arith), o.once a ha));
    sum = total_cons (taken n) (set s.y j n) (n - j) (n - (j + 1)) j fuel
        ∙ rw (get_or-set_same s.y j n 0 (omega (arith, o.len_y, o.to)), total-out (taken n) s.y (n - (j + 1)) (j + 1) j n (λ k p q e. omega arith)) (omega (arith, taken_none n n (omega arith), o.sum));
    back = λ k jk kn hy. go k jk kn hy (ℕ_discrete k j);
    new = λ e. absurd (omega (arith, o.to));
    last = λ q. ends (dec_lt (j + 1) n);
  }
    where
      go : (k : ℕ) → j ≤ k → k < n → get_or (set s.y j n) k 0 < n → Dec (k ≡ j) → get_or s.x (get_or (set s.y j n) k 0) 0 ≡ k
      go k jk kn hy (yes e) = absurd (omega (arith, rw (e, get_or-set_same s.y j n 0 (omega (arith, o.len_y, o.to))) at hy))
      go k jk kn hy (no e) =
          let g : get_or (set s.y j n) k 0 ≡ get_or s.y k 0 = get_or-set_other s.y j k n 0 e in
          rw g (o.back k (omega arith) kn (rw g at hy))

      ends : Dec (j + 1 < n) → 1 ≤ total (taken n) s.x n 0
      ends (yes q) = o.last q
      ends (no q) = absurd (omega (arith, o.new (omega (arith, o.to)) i iy))

  pub col-ok : ColOk n j (col_step n j (get_or s.y j 0) s.x s.y s.unique)
  col-ok = go (is_free (owner_of n (get_or s.x i 0))) refl
    where
      go : (b : Bool) → is_free (owner_of n (get_or s.x i 0)) ≡ b → ColOk n j (cond b (taken_at (set s.x i j) s.y s.unique) (taken_at s.x (set s.y j n) (set s.unique i false)))
      go true e = give (free_true n (get_or s.x i 0) e)
      go false e = drop (free_false n (get_or s.x i 0) e)

pub cols-ok : (n j : ℕ) (s : Taken) → ColOk n j s → ColOk n 0 (cols_from n j s)
unfolding cols_from
cols-ok n zero s o = o
cols-ok n (suc j) s o = rw (row_is n (get_or s.y j 0) (o.rows j (omega arith))) (cols-ok n j _ (col-ok n j s (subst (λ (q : ℕ). ColOk n q s) (sym (add-one j)) o)))

-- ---- the free rows

pub record RedOk (n i : ℕ) (x : List ℕ) (s : Reduced) : Type 0 where
  pub to : i ≤ n
  pub len : length s.free_rows ≡ n
  pub low : s.n_free_rows ≤ i
  pub once : (a : ℕ) → a < i → total (is a) s.free_rows s.n_free_rows 0 + taken n (get_or x a 0) ≡ 1
  pub later : (a : ℕ) → i ≤ a → total (is a) s.free_rows s.n_free_rows 0 ≡ 0
  pub sum : s.n_free_rows + total (taken n) x i 0 ≡ i
  pub below : (k : ℕ) → k < s.n_free_rows → get_or s.free_rows k 0 < n
  pub len_v : length s.v ≡ n

module _ (n i : ℕ) (x : List ℕ) (s : Reduced) (o : RedOk n i x s) (hi : i < n) where
  lists : n ≤ get_or x i 0 → (v : List Float) → length v ≡ n → RedOk n (i + 1) x (reduced (set s.free_rows s.n_free_rows i) (s.n_free_rows + 1) v)
  lists h v lv = record {
    to = omega arith;
    len = length-set s.free_rows s.n_free_rows i ∙ o.len;
    low = omega (arith, o.low);
    once = λ a ha. rw (grows a) (go a ha (ℕ_discrete a i));
    later = λ a ha. rw (grows a) (omega (arith, o.later a (omega arith), is_other a i (λ e. omega arith)));
    sum = rw (add-one i, total_snoc (taken n) x i 0, zero-add i) (omega (arith, o.sum, taken_none n (get_or x i 0) h));
    below = λ k hk. bl k hk (ℕ_discrete k s.n_free_rows);
    len_v = lv;
  }
    where
      grows : (a : ℕ) → total (is a) (set s.free_rows s.n_free_rows i) (s.n_free_rows + 1) 0 ≡ total (is a) s.free_rows s.n_free_rows 0 + is a i
      grows a = rw (
        add-one s.n_free_rows,
        total_snoc (is a) (set s.free_rows s.n_free_rows i) s.n_free_rows 0,
        zero-add s.n_free_rows,
        get_or-set_same s.free_rows s.n_free_rows i 0 (omega (arith, o.low, o.len)),
        total-out (is a) s.free_rows s.n_free_rows 0 s.n_free_rows i (λ k p q e. omega arith),
      )

      go : (a : ℕ) → a < i + 1 → Dec (a ≡ i) → total (is a) s.free_rows s.n_free_rows 0 + is a i + taken n (get_or x a 0) ≡ 1
      go a ha (yes e) = rw e (omega (arith, o.later i (omega arith), is_same i i refl, taken_none n (get_or x i 0) h))
      go a ha (no e) = omega (arith, o.once a (omega arith), is_other a i e)

      bl : (k : ℕ) → k < s.n_free_rows + 1 → Dec (k ≡ s.n_free_rows) → get_or (set s.free_rows s.n_free_rows i) k 0 < n
      bl k hk (yes e) = rw (e, get_or-set_same s.free_rows s.n_free_rows i 0 (omega (arith, o.low, o.len))) hi
      bl k hk (no e) = rw (get_or-set_other s.free_rows s.n_free_rows k i 0 e) (o.below k (omega arith))

  skips : get_or x i 0 < n → (v : List Float) → length v ≡ n → RedOk n (i + 1) x (reduced s.free_rows s.n_free_rows v)
  skips h v lv = record {
    to = omega arith;
    len = o.len;
    low = omega (arith, o.low);
    once = λ a ha. go a ha (ℕ_discrete a i);
    later = λ a ha. o.later a (omega arith);
    sum = rw (add-one i, total_snoc (taken n) x i 0, zero-add i) (omega (arith, o.sum, taken-row n (get_or x i 0) h));
    below = o.below;
    len_v = lv;
  }
    where
      go : (a : ℕ) → a < i + 1 → Dec (a ≡ i) → total (is a) s.free_rows s.n_free_rows 0 + taken n (get_or x a 0) ≡ 1
      go a ha (yes e) = rw e (omega (arith, o.later i (omega arith), taken-row n (get_or x i 0) h))
      go a ha (no e) = o.once a (omega arith)

  pub red_ok : (cost : List Float) (u : Bool) → RedOk n (i + 1) x (reduce_step n cost i (get_or x i 0) u s.free_rows s.n_free_rows s.v)
  red_ok cost u =
      go (is_free (owner_of n (get_or x i 0))) refl u
      (set s.v (row_of n (owner_of n (get_or x i 0))) (get_or s.v (row_of n (owner_of n (get_or x i 0))) nan ⊖ min_from n cost i (row_of n (owner_of n (get_or x i 0))) s.v n 0 large))
      (length-set s.v (row_of n (owner_of n (get_or x i 0))) _ ∙ o.len_v)
    where
      go : (b : Bool) → is_free (owner_of n (get_or x i 0)) ≡ b → (u : Bool) (v : List Float) → length v ≡ n
          → RedOk n (i + 1) x
          (cond b (reduced (set s.free_rows s.n_free_rows i) (s.n_free_rows + 1) s.v) (cond u (reduced s.free_rows s.n_free_rows v) (reduced s.free_rows s.n_free_rows s.v)))
      go true e u v lv = lists (free_true n (get_or x i 0) e) s.v o.len_v
      go false e true v lv = skips (free_false n (get_or x i 0) e) v lv
      go false e false v lv = skips (free_false n (get_or x i 0) e) s.v o.len_v

pub reds_ok : (n : ℕ) (cost : List Float) (x : List ℕ) (u : List Bool) (m i : ℕ) (s : Reduced) → i + m ≡ n → RedOk n i x s → RedOk n n x (reduce_from n cost x u m i s)
unfolding reduce_from
reds_ok n cost x u zero i s e o = subst (λ (q : ℕ). RedOk n q x s) (omega arith) o
reds_ok n cost x u (suc m) i s e o = reds_ok n cost x u m (i + 1) _ (omega arith) (red_ok n i x s o (omega arith) cost (get_or u i false))

-- ---- the first prices: each column has a row

pub record RowOk (n : ℕ) (s : Prices) : Type 0 where
  pub len_y : length s.y ≡ n
  pub len_v : length s.v ≡ n
  pub rows : (k : ℕ) → k < n → get_or s.y k 0 < n

row_ok : (n i j : ℕ) (c : Float) (s : Prices) → i < n → RowOk n s → RowOk n (row_step i j c s.y s.v)
row_ok n i j c s hi o = go (lt c (get_or s.v j nan))
  where
    go : (b : Bool) → RowOk n (cond b (prices (set s.y j i) (set s.v j c)) (prices s.y s.v))
    go true = record { len_y = length-set s.y j i ∙ o.len_y; len_v = length-set s.v j c ∙ o.len_v; rows = λ k hk. at k hk (ℕ_discrete k j) }
      where
        at : (k : ℕ) → k < n → Dec (k ≡ j) → get_or (set s.y j i) k 0 < n
        at k hk (yes e) = rw (e, get_or-set_same s.y j i 0 (omega (arith, o.len_y))) hi
        at k hk (no e) = rw (get_or-set_other s.y j k i 0 e) (o.rows k hk)
    go false = o

row_from-ok : (n i : ℕ) (cost : List Float) (m j : ℕ) (s : Prices) → i < n → RowOk n s → RowOk n (row_from n cost i m j s)
unfolding row_from
row_from-ok n i cost zero j s hi o = o
row_from-ok n i cost (suc m) j s hi o = row_from-ok n i cost m (j + 1) _ hi (row_ok n i j (cost_at cost n i j) s hi o)

pub rows_ok : (n : ℕ) (cost : List Float) (m i : ℕ) (s : Prices) → i + m ≡ n → RowOk n s → RowOk n (rows_from n cost m i s)
unfolding rows_from
rows_ok n cost zero i s e o = o
rows_ok n cost (suc m) i s e o = rows_ok n cost m (i + 1) _ (omega arith) (row_from-ok n i cost n 0 s (omega arith) o)

pub ccrt_below : (n : ℕ) (cost : List Float) (y1 : List ℕ) (v1 : List Float) (y2 : List ℕ) (v2 : List Float) → 1 ≤ n → y1 ≡ tab (λ i. 0) n → length v1 ≡ n
    → prices y2 v2 ≡ rows_from n cost n 0 (prices y1 v1) → (k : ℕ) → k < length y2 → get_or y2 k 0 < n
ccrt_below n cost y1 v1 y2 v2 some ey lv e k hk = ok.rows k (omega (arith, ok.len_y))
  where
    ok : RowOk n (prices y2 v2)
    ok = rw e (rows_ok n cost n 0 (prices y1 v1) (omega arith) (record {
      len_y = rw ey (length-tab (λ i. 0) n);
      len_v = lv;
      rows = λ k hk. rw (ey, tab-at {A = ℕ} (λ i. 0) n k 0 hk) some;
    }))
