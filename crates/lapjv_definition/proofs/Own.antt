-- Each row is either some column's, once, or pending, once: kept by every row turn. Assumes nothing.
use mathlib.Core.Path.{◌≡◌, refl, sym, ◌∙◌}
use mathlib.Core.Bool.{Bool, true, false}
use mathlib.Core.List.{List}
use Prim.Native.Nat.{ℕ, ◌+◌, ◌-◌, ◌<◌, ◌≤◌}
use native.Mathlib.Omega.{arith}
use native.Mathlib.Decide.{ℕ_discrete}
use native.Mathlib.Nat.{zero-add}
use native.Mathlib.Numerals.{add-one}
use borrow.Author.Tests.{ltb-true, ltb-false}
use lib.Dec.{ltb}
use lib.ListN.{length, get_or, set}
use lib.Seq.{get_or-set_same, get_or-set_other}
use lib.Ieee.{Float}
use Rattle.laws.specs.Total.{total, is, total-in, total-out, total_snoc, total_cons, total_ge, is_same, is_other}
use Rattle.lapjv_definition.specs.Carr.{Carrying, carrying}
use Rattle.lapjv_definition.specs.Invariant.{taken}
use Rattle.lapjv_definition.specs.Private.{carr_by, carr_take}
use Rattle.lapjv_definition.proofs.SearchLaws.{taken-row, taken_none}

-- a column's row, if it has one, knows the column
pub record Own (n n_free_rows : ℕ) (s : Carrying) : Type 0 where
  pub once : (i : ℕ) → i < n → total (is i) s.y n 0 + total (is i) s.free_rows s.new_free_rows 0 + total (is i) s.free_rows (n_free_rows - s.current) s.current ≡ 1
  pub back : (j : ℕ) → j < n → get_or s.y j 0 < n → get_or s.x (get_or s.y j 0) 0 ≡ j
  pub sum : total (taken n) s.y n 0 + s.new_free_rows + (n_free_rows - s.current) ≡ n

module _ (n n_free_rows : ℕ) (s : Carrying) (ok : Own n n_free_rows s) (ly : length s.y ≡ n) (lx : length s.x ≡ n) (lf : length s.free_rows ≡ n)
    (more : s.current < n_free_rows) (room : n_free_rows ≤ n) (new : s.new_free_rows ≤ s.current) (v : List Float) where
  abbrev row : ℕ
  row = get_or s.free_rows s.current 0

  head : (a : ℕ) → total (is a) s.free_rows (n_free_rows - s.current) s.current ≡ is a row + total (is a) s.free_rows (n_free_rows - (s.current + 1)) (s.current + 1)
  head a = total_cons (is a) s.free_rows (n_free_rows - s.current) (n_free_rows - (s.current + 1)) s.current (omega arith)

  -- the pending row is no column's yet
  not_held : (j : ℕ) → j < n → row < n → get_or s.y j 0 ≡ row → ⊥
  not_held j hj hr e = omega (arith, ok.once row hr, head row, is_same row row refl, total_ge (is row) s.y n 0 j (omega arith) (omega arith), is_same row (get_or s.y j 0) (sym e))

  -- row takes column j
  module _ (j : ℕ) (hj : j < n) (hr : row < n) where
    old : ℕ
    old = get_or s.y j 0

    sums : total (taken n) (set s.y j row) n 0 + taken n old ≡ total (taken n) s.y n 0 + 1
    unfolding old
    sums = total-in (taken n) s.y n 0 j row (omega arith) (omega arith) (omega arith) ∙ omega (arith, taken-row n row hr)

    ys : (a : ℕ) → total (is a) (set s.y j row) n 0 + is a old ≡ total (is a) s.y n 0 + is a row
    unfolding old
    ys a = total-in (is a) s.y n 0 j row (omega arith) (omega arith) (omega arith)

    backs : (k : ℕ) → k < n → get_or (set s.y j row) k 0 < n → get_or (set s.x row j) (get_or (set s.y j row) k 0) 0 ≡ k
    backs k hk hy = go (ℕ_discrete k j)
      where
        go : Dec (k ≡ j) → get_or (set s.x row j) (get_or (set s.y j row) k 0) 0 ≡ k
        go (yes e) = rw (e, get_or-set_same s.y j row 0 (omega arith), get_or-set_same s.x row j 0 (omega arith))
        go (no e) =
            let g : get_or (set s.y j row) k 0 ≡ get_or s.y k 0 = get_or-set_other s.y j k row 0 e in
            rw (g, get_or-set_other s.x row (get_or s.y k 0) j 0 (not_held k hk hr)) (ok.back k hk (rw g at hy))

    -- the old row has another turn
    retry : old < n → Own n n_free_rows (carrying s.current s.new_free_rows (s.rr_cnt + 1) (set s.free_rows s.current old) (set s.x row j) (set s.y j row) v)
    retry h = record {
      once = λ a ha. omega (
        arith,
        ok.once a ha,
        ys a,
        total-in (is a) s.free_rows (n_free_rows - s.current) s.current s.current old (omega arith) (omega arith) (omega arith),
        total-out (is a) s.free_rows s.new_free_rows 0 s.current old (λ k p q e. omega arith),
      );
      back = backs;
      sum = omega (arith, ok.sum, sums, taken-row n old h);
    }

    -- the old row waits for the next round
    wait : old < n → Own n n_free_rows (carrying (s.current + 1) (s.new_free_rows + 1) (s.rr_cnt + 1) (set s.free_rows s.new_free_rows old) (set s.x row j) (set s.y j row) v)
    wait h = record {
      once = λ a ha. rw (add-one s.new_free_rows, total_snoc (is a) (set s.free_rows s.new_free_rows old) s.new_free_rows 0, zero-add s.new_free_rows, get_or-set_same s.free_rows s.new_free_rows old 0 (omega arith))
          (omega (
            arith,
            ok.once a ha,
            ys a,
            head a,
            total-out (is a) s.free_rows s.new_free_rows 0 s.new_free_rows old (λ k p q e. omega arith),
            total-out (is a) s.free_rows (n_free_rows - (s.current + 1)) (s.current + 1) s.new_free_rows old (λ k p q e. omega arith),
          ));
      back = backs;
      sum = omega (arith, ok.sum, sums, taken-row n old h);
    }

    -- the column was free
    fresh : n ≤ old → Own n n_free_rows (carrying (s.current + 1) s.new_free_rows (s.rr_cnt + 1) s.free_rows (set s.x row j) (set s.y j row) v)
    fresh h = record {
      once = λ a ha. omega (arith, ok.once a ha, ys a, head a, is_other a old (λ e. omega arith));
      back = backs;
      sum = omega (arith, ok.sum, sums, taken_none n old h);
    }

    pub own-take : (t : Bool) → Own n n_free_rows (carr_take n t row j v s)
    unfolding carr_take old
    own-take t = go (ltb (get_or s.y j 0) n) refl t
      where
        go : (b : Bool) → ltb (get_or s.y j 0) n ≡ b → (t : Bool) → Own n n_free_rows (carr_by b t row j (get_or s.y j 0) v s)
        go true e true = retry (ltb-true (get_or s.y j 0) n e)
        go true e false = wait (ltb-true (get_or s.y j 0) n e)
        go false e t = fresh (ltb-false (get_or s.y j 0) n e)
