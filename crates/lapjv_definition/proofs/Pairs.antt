-- The definition's stages one after the other, from ccrt_dense to ca_dense: rows and columns end up paired one to one, within the bounds on turns and scans, whatever the costs. Assumes nothing.
use mathlib.Core.Path.{◌≡◌, refl, sym, ap, ◌∙◌, subst}
use mathlib.Core.Bool.{true}
use mathlib.Core.List.{List}
use Prim.Native.Nat.{ℕ, zero, suc, ◌+◌, ◌-◌, ◌*◌, ◌<◌, ◌≤◌}
use native.Mathlib.Omega.{arith}
use native.Mathlib.Decide.{ℕ_discrete, dec_lt}
use native.Mathlib.Nat.{zero-add, sub-zero, one-mul, suc-mul, mul-suc, mul-le-mul_right, mul-le-mul_left, mul_comm, le_trans}
use lib.ListN.{length, get_or, replicate, length-replicate}
use lib.Ieee.{Float}
use Rattle.laws.specs.Tab.{tab, length-tab, tab-at}
use Rattle.laws.specs.Total.{total-zero, total-find, total, is}
use Rattle.lapjv_definition.specs.Bounds.{Paired, passed}
use Rattle.lapjv_definition.specs.Ca.{Assigned, assigned, ca_from}
use Rattle.lapjv_definition.specs.Carr.{Carrying, carrying, carr_dence}
use Rattle.lapjv_definition.specs.Ccrt.{Prices, prices, rows_from, cols_from, Taken, Reduced, reduced, reduce_from, Ccrt, ccrt_dense, taken as taken_at}
use Rattle.lapjv_definition.specs.Cost.{large}
use Rattle.lapjv_definition.specs.Invariant.{taken, tri, CaOk}
use Rattle.lapjv_definition.specs.Halves.{rounds_over}
use Rattle.lapjv_definition.specs.Lapjv.{Rounds, rounds_at, rounds, assignment, lapjv}
use Rattle.lapjv_definition.proofs.CaEnds.{Open, ca_open, ca_passes}
use Rattle.lapjv_definition.proofs.CarrEnds.{Ended, carr-ends}
use Rattle.lapjv_definition.proofs.CarrLaws.{CarrOk}
use Rattle.lapjv_definition.proofs.CcrtEnds.{ColOk, cols-ok, RedOk, reds_ok, RowOk, rows_ok}
use Rattle.lapjv_definition.proofs.Own.{Own}
use Rattle.lapjv_definition.proofs.Rounds.{two-rounds, finished, lapjv_plain}
use Rattle.lapjv_definition.proofs.SearchLaws.{taken-row, taken_none, total_le}

-- ---- all columns have rows

full : (n : ℕ) (y : List ℕ) (m a : ℕ) → total (taken n) y m a ≡ m → (k : ℕ) → a ≤ k → k < a + m → get_or y k 0 < n
unfolding total
full n y zero a e k p q = absurd (omega arith)
full n y (suc m) a e k p q = go (ℕ_discrete k a) (dec_lt (get_or y a 0) n) (full n y m (a + 1))
  where
    go : Dec (k ≡ a) → Dec (get_or y a 0 < n) → (total (taken n) y m (a + 1) ≡ m → (k : ℕ) → a + 1 ≤ k → k < a + 1 + m → get_or y k 0 < n) → get_or y k 0 < n
    go (yes r) (yes h) ih = rw r h
    go d (no h) ih = absurd (omega (arith, total_le n y m (a + 1), taken_none n (get_or y a 0) (omega arith)))
    go (no r) (yes h) ih = ih (omega (arith, taken-row n (get_or y a 0) h)) k (omega arith) (omega arith)

-- ---- the pairing

paired : (n n_free_rows : ℕ) (free_rows : List ℕ) (s : Assigned) → CaOk n n_free_rows free_rows n_free_rows s → Paired n s.x s.y
paired n n_free_rows free_rows s o = record {
  len_x = o.len_x;
  len_y = o.len_y;
  rows = λ i hi. row i hi (total-find i s.y n 0 (omega (arith, o.once i hi, total-zero (is i) free_rows (n_free_rows - n_free_rows) n_free_rows (omega arith))));
  cols = λ j hj. (all j hj, o.back j hj (all j hj));
}
  where
    all : (j : ℕ) → j < n → get_or s.y j 0 < n
    all j hj = full n s.y n 0 (omega (arith, o.sum)) j (omega arith) (omega arith)

    row : (i : ℕ) → i < n → (k : ℕ) × (0 ≤ k) × (k < 0 + n) × (get_or s.y k 0 ≡ i) → (get_or s.x i 0 < n) × (get_or s.y (get_or s.x i 0) 0 ≡ i)
    row i hi (k, p, q, e) =
        let b : get_or s.x i 0 ≡ k = rw e at (o.back k (omega arith) (all k (omega arith))) in
        (omega arith, rw b e)

-- ---- from one stage to the next

again : (n n_free_rows : ℕ) (s : Carrying) → Ended n n_free_rows s → Own n s.new_free_rows (carrying 0 0 0 s.free_rows s.x s.y s.v)
again n n_free_rows s e = record {
  once = λ i hi. rw (sub-zero s.new_free_rows) (omega (arith, e.own.once i hi, total-zero (is i) s.free_rows 0 0 refl, total-zero (is i) s.free_rows (n_free_rows - s.current) s.current (omega (arith, e.done))));
  back = e.own.back;
  sum = omega (arith, e.own.sum, e.done);
}

okay : (n n_free_rows m : ℕ) (s : Carrying) → 1 ≤ n → m ≤ n_free_rows → CarrOk n n_free_rows s → CarrOk n m (carrying 0 0 0 s.free_rows s.x s.y s.v)
okay n n_free_rows m s some few o = record {
  cur = omega arith;
  new = omega arith;
  room = omega (arith, one-mul n);
  bound = omega arith;
  len_free = o.len_free;
  len_x = o.len_x;
  len_y = o.len_y;
  len_v = o.len_v;
  below = λ k hk. o.below k (omega arith);
}

tri-is : (n : ℕ) → tri n + tri n + n ≡ n * n
unfolding tri
tri-is zero = refl
tri-is (suc n) = omega (arith, tri-is n, suc-mul n (suc n), mul-suc n n)

-- ---- all of lapjv

none-taken : (n : ℕ) (m a : ℕ) → a + m ≤ n → total (taken n) (tab (λ i. n) n) m a ≡ 0
unfolding total
none-taken n zero a h = refl
none-taken n (suc m) a h = rw (tab-at (λ i. n) n a 0 (omega arith)) (omega (arith, none-taken n m (a + 1) (omega arith), taken_none n n (omega arith)))

-- over any first free rows F
module _ (n : ℕ) (some : 1 ≤ n) (cost : List Float) (F : List ℕ) (len : length F ≡ n) where
  first : RowOk n (rows_from n cost n 0 (prices (tab (λ i. 0) n) (tab (λ i. large) n)))
  first = rows_ok n cost n 0 _ (omega arith)
      (record { len_y = length-tab (λ i. 0) n; len_v = length-tab (λ i. large) n; rows = λ k hk. rw (tab-at {A = ℕ} (λ i. 0) n k 0 hk) some })

  abbrev P : Prices
  P = rows_from n cost n 0 (prices (tab (λ i. 0) n) (tab (λ i. large) n))

  abbrev T : Taken
  T = cols_from n n (taken_at (tab (λ i. n) n) P.y (replicate n true))

  cols : ColOk n 0 T
  cols = cols-ok n n (taken_at (tab (λ i. n) n) P.y (replicate n true)) (record {
    to = omega arith;
    len_x = length-tab (λ i. n) n;
    len_y = first.len_y;
    rows = first.rows;
    once = λ a ha. rw (tab-at {A = ℕ} (λ i. n) n a 0 ha) (omega (arith, taken_none n n (omega arith), total-zero (is a) P.y (n - n) n (omega arith)));
    sum = omega (arith, none-taken n n 0 (omega arith), total-zero (taken n) P.y (n - n) n (omega arith));
    back = λ k jk kn. absurd (omega arith);
    new = λ e a ha. rw (tab-at {A = ℕ} (λ i. n) n a 0 ha) (omega arith);
    last = λ h. absurd (omega arith);
  })

  abbrev D : Reduced
  D = reduce_from n cost T.x T.unique n 0 (reduced F 0 P.v)

  red : RedOk n n T.x D
  red = reds_ok n cost T.x T.unique n 0 (reduced F 0 P.v) (omega arith) (record {
    to = omega arith;
    len = len;
    low = omega arith;
    once = λ a ha. absurd (omega arith);
    later = λ a ha. total-zero (is a) F 0 0 refl;
    sum = omega (arith, total-zero (taken n) T.x 0 0 refl);
    below = λ k hk. absurd (omega arith);
    len_v = first.len_v;
  })

  -- not every row is free
  fewer : D.n_free_rows < n
  fewer = omega (arith, red.sum, cols.last (omega arith))

  own : Own n D.n_free_rows (carrying 0 0 0 D.free_rows T.x T.y D.v)
  own = record {
    once = λ i hi. rw (sub-zero D.n_free_rows) (omega (arith, total-zero (is i) D.free_rows 0 0 refl, red.once i hi, rw (sub-zero n) at (cols.once i hi)));
    back = λ j hj. cols.back j (omega arith) hj;
    sum = omega (arith, red.sum, rw (sub-zero n) at cols.sum);
  }

  ok : CarrOk n D.n_free_rows (carrying 0 0 0 D.free_rows T.x T.y D.v)
  ok = record {
    cur = omega arith;
    new = omega arith;
    room = omega (arith, one-mul n);
    bound = omega arith;
    len_free = red.len;
    len_x = cols.len_x;
    len_y = cols.len_y;
    len_v = red.len_v;
    below = red.below;
  }

  abbrev B : Carrying
  B = carr_dence n cost D.n_free_rows D.free_rows T.x T.y D.v

  one : Ended n D.n_free_rows B
  one = carr-ends n D.n_free_rows cost D.free_rows T.x T.y D.v some (omega (arith, fewer)) ok own

  fewer' : B.new_free_rows ≤ D.n_free_rows
  fewer' = omega (arith, one.ok.new, one.ok.cur)

  abbrev C : Carrying
  C = carr_dence n cost B.new_free_rows B.free_rows B.x B.y B.v

  two : Ended n B.new_free_rows C
  two = carr-ends n B.new_free_rows cost B.free_rows B.x B.y B.v some (omega (arith, fewer, fewer')) (okay n D.n_free_rows B.new_free_rows B some fewer' one.ok) (again n D.n_free_rows B one)

  own₃ : Own n C.new_free_rows (carrying 0 0 0 C.free_rows C.x C.y C.v)
  own₃ = again n B.new_free_rows C two

  abbrev E : Assigned
  E = ca_from n cost C.free_rows C.new_free_rows 0 (assigned C.x C.y C.v 0)

  begun : CaOk n C.new_free_rows C.free_rows 0 (assigned C.x C.y C.v 0)
  begun = record {
    len_x = two.ok.len_x;
    len_y = two.ok.len_y;
    once = λ i hi. omega (arith, own₃.once i hi, total-zero (is i) C.free_rows 0 0 refl);
    back = two.own.back;
    sum = omega (arith, own₃.sum);
    scans = omega arith;
  }

  within : (k : ℕ) → k < C.new_free_rows → get_or C.free_rows k 0 < n
  within k hk = two.ok.below k (omega (arith, two.ok.new, two.ok.cur))

  -- after r passes of ca_dense
  at_pass : (r : ℕ) → r ≤ C.new_free_rows → CaOk n C.new_free_rows C.free_rows r (ca_from n cost C.free_rows r 0 (assigned C.x C.y C.v 0))
  at_pass r h = subst (λ (q : ℕ). CaOk n C.new_free_rows C.free_rows q (ca_from n cost C.free_rows r 0 (assigned C.x C.y C.v 0))) (zero-add r)
      (ca_passes n C.new_free_rows C.free_rows within cost r 0 (assigned C.x C.y C.v 0) (omega arith) begun)

  three : CaOk n C.new_free_rows C.free_rows C.new_free_rows E
  three = at_pass C.new_free_rows (omega arith)

  -- at most 2 n (n - 1) row turns
  turns : B.rr_cnt + C.rr_cnt ≤ 2 * (n * (n - 1))
  turns = omega (arith, one.ok.bound, two.ok.bound, mul-le-mul_right {m = D.n_free_rows} {n = n - 1} n (omega (arith, fewer)), mul-le-mul_right {m = B.new_free_rows} {n = n - 1} n (omega (arith, fewer, fewer')), mul_comm n (n - 1))

  -- the first half, without its tests `ret > 0`
  half : rounds_over n cost F ≡ rounds_at C.new_free_rows (B.rr_cnt + C.rr_cnt) C.free_rows C.x C.y C.v
  half = two-rounds n cost _ ∙ ap (λ (k : ℕ). rounds_at C.new_free_rows (k + C.rr_cnt) C.free_rows C.x C.y C.v) (zero-add B.rr_cnt)

  -- ---- the first half as the code has it

  module _ {z : Ccrt} (g : z ≡ ccrt_dense n cost F) where
    pub reduce_first : CarrOk n z.n_free_rows (carrying 0 0 0 z.free_rows z.x z.y z.v)
    reduce_first = subst (λ (w : Ccrt). CarrOk n w.n_free_rows (carrying 0 0 0 w.free_rows w.x w.y w.v)) (sym g) ok

    pub reduce_few : z.n_free_rows < n
    reduce_few = subst (λ (w : Ccrt). w.n_free_rows < n) (sym g) fewer

    module _ {s : Carrying} (e₁ : s ≡ carr_dence n cost z.n_free_rows z.free_rows z.x z.y z.v) where
      s-is : s ≡ B
      s-is = e₁ ∙ ap (λ (w : Ccrt). carr_dence n cost w.n_free_rows w.free_rows w.x w.y w.v) g

      pub reduce_second : CarrOk n s.new_free_rows (carrying 0 0 0 s.free_rows s.x s.y s.v)
      reduce_second = subst (λ (w : Carrying). CarrOk n w.new_free_rows (carrying 0 0 0 w.free_rows w.x w.y w.v)) (sym s-is) (okay n D.n_free_rows B.new_free_rows B some fewer' one.ok)

      pub reduce_few₂ : s.new_free_rows ≤ n
      reduce_few₂ = subst (λ (w : Carrying). w.new_free_rows ≤ n) (sym s-is) (omega (arith, fewer, fewer'))

      module _ {t : Carrying} (e₂ : t ≡ carr_dence n cost s.new_free_rows s.free_rows s.x s.y s.v) where
        t-is : t ≡ C
        t-is = e₂ ∙ ap (λ (w : Carrying). carr_dence n cost w.new_free_rows w.free_rows w.x w.y w.v) s-is

        pub reduce_small : n ≤ 255 → s.rr_cnt + t.rr_cnt ≤ 130050
        reduce_small small = rw (s-is, t-is) (omega (arith, turns, le_trans (mul-le-mul_right (n - 1) small) (mul-le-mul_left 255 less)))
          where
            less : n - 1 ≤ 255
            less = omega arith

        pub reduce_result : rounds_at t.new_free_rows (s.rr_cnt + t.rr_cnt) t.free_rows t.x t.y t.v ≡ rounds_over n cost F
        reduce_result =
            ap (λ (w : Carrying). rounds_at w.new_free_rows (s.rr_cnt + w.rr_cnt) w.free_rows w.x w.y w.v) t-is
            ∙ ap (λ (w : Carrying). rounds_at C.new_free_rows (w.rr_cnt + C.rr_cnt) C.free_rows C.x C.y C.v) s-is
            ∙ sym half

-- what the second half begins with
pub record Begun (n : ℕ) (b : Rounds) : Type 0 where
  pub few : b.ret ≤ n
  pub below : (k : ℕ) → k < b.ret → get_or b.free_rows k 0 < n
  pub len_free : length b.free_rows ≡ n
  pub len_v : length b.v ≡ n
  pub ok : CaOk n b.ret b.free_rows 0 (assigned b.x b.y b.v 0)
  pub turns : b.turns ≤ 2 * (n * (n - 1))

-- over n zeros, as lapjv has it
module _ (n : ℕ) (some : 1 ≤ n) (cost : List Float) where
  abbrev Z : List ℕ
  Z = replicate n 0

  len_Z : length Z ≡ n
  len_Z = length-replicate n 0

  abbrev C₀ : Carrying
  C₀ = C n some cost Z len_Z

  abbrev B₀ : Carrying
  B₀ = B n some cost Z len_Z

  abbrev E₀ : Assigned
  E₀ = E n some cost Z len_Z

  -- before each pass that lapjv makes, x and y are as the search needs them
  pub lapjv-passes : (row_n : ℕ) → row_n < (rounds n cost).ret → Open n (get_or (rounds n cost).free_rows row_n 0) (passed n cost row_n).x (passed n cost row_n).y
  lapjv-passes = subst (λ (b : Rounds). (r : ℕ) → r < b.ret
      → Open n (get_or b.free_rows r 0) (ca_from n cost b.free_rows r 0 (assigned b.x b.y b.v 0)).x (ca_from n cost b.free_rows r 0 (assigned b.x b.y b.v 0)).y)
      (sym (two-rounds n cost _))
      (λ r h. ca_open n C₀.new_free_rows C₀.free_rows (within n some cost Z len_Z) cost r _ (at_pass n some cost Z len_Z r (omega arith)) h)

  -- the definition's result, without its tests `ret > 0`
  plain : lapjv n cost ≡ assignment 0 E₀.x E₀.y (B₀.rr_cnt + C₀.rr_cnt) E₀.scans
  plain = lapjv_plain n cost ∙ ap (λ (k : ℕ). assignment 0 E₀.x E₀.y (k + C₀.rr_cnt) E₀.scans) (zero-add B₀.rr_cnt)

  -- each row is paired with exactly one column and each column with exactly one row, the two lists telling the same pairs
  pub lapjv-pairs : Paired n (lapjv n cost).x (lapjv n cost).y
  lapjv-pairs = rw plain (paired n C₀.new_free_rows C₀.free_rows E₀ (three n some cost Z len_Z))

  -- at most 2 n (n - 1) row turns
  pub lapjv-turns : (lapjv n cost).turns ≤ 2 * (n * (n - 1))
  lapjv-turns = rw plain (turns n some cost Z len_Z)

  -- the Rust's last test
  pub lapjv-ret : (lapjv n cost).ret ≡ 0
  lapjv-ret = rw plain

  -- at most n (n - 1) / 2 column scans
  pub lapjv-scans : 2 * (lapjv n cost).scans ≤ n * (n - 1)
  lapjv-scans = rw plain (omega (arith, rw filled at (three n some cost Z len_Z).scans, tri-is n, mul_sub_one))
    where
      filled : total (taken n) E₀.y n 0 ≡ n
      filled = omega (arith, (three n some cost Z len_Z).sum)

      mul_sub_one : n * (n - 1) + n ≡ n * n
      mul_sub_one = let e : n ≡ suc (n - 1) = omega arith in sym (mul-suc n (n - 1)) ∙ ap (λ (z : ℕ). n * z) (sym e)

  -- ---- the second half as the code has it

  pub assign_begun : {b : Rounds} → b ≡ rounds n cost → Begun n b
  assign_begun g = subst (λ (w : Rounds). Begun n w) (sym (g ∙ half n some cost Z len_Z)) (record {
    few = omega (arith, (two n some cost Z len_Z).ok.new, (two n some cost Z len_Z).ok.cur, fewer n some cost Z len_Z, fewer' n some cost Z len_Z);
    below = within n some cost Z len_Z;
    len_free = (two n some cost Z len_Z).ok.len_free;
    len_v = (two n some cost Z len_Z).ok.len_v;
    ok = begun n some cost Z len_Z;
    turns = turns n some cost Z len_Z;
  })

  pub assign_result : {b : Rounds} → b ≡ rounds n cost → {x y : List ℕ} {v : List Float} {c : ℕ} → assigned x y v c ≡ ca_from n cost b.free_rows b.ret 0 (assigned b.x b.y b.v 0)
      → assignment 0 x y b.turns c ≡ lapjv n cost
  assign_result {b} g e =
      ap (λ (w : Assigned). assignment 0 w.x w.y b.turns w.scans) e
      ∙ ap (finished n cost) (g ∙ half n some cost Z len_Z)
      ∙ sym plain
