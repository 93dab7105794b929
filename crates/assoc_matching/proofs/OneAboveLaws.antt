-- Where the direct path is taken: a test passes at most once where any two indices at which it holds are the same. Assumes nothing.
use Rattle.std.proofs.Common.{◌≡◌, ℕ, zero, suc, ◌+◌, ◌<◌, ◌≤◌, Bool, true, false, List, sym, refl, ◌∙◌, ⊎_elim, zero-le, le_refl, le_of_suc-le-suc, not-suc-le-zero, eq-or-lt_of_le, arith, le-leb}
use lib.Ieee.{Float}
use Rattle.laws.specs.Count.{bit, count_where}
use Rattle.laws.specs.Most.{most, most-least}
use Rattle.assoc_matching.specs.Matching.{above, mask, row_sum, col_sum, simple}
use Rattle.assoc_matching.specs.Direct.{OneAbove}
use Rattle.assoc_direct.proofs.SimpleLaws.{rows-low, cols-low}

-- where a test holds it is counted
counted : (p : ℕ → Bool) (n i : ℕ) → i < n → p i ≡ true → 1 ≤ count_where p n
unfolding count_where
counted p zero i h e = absurd (not-suc-le-zero h)
counted p (suc n) i h e =
    ⊎_elim
    (λ (q : i ≡ n). let z : p n ≡ true = rw q at e in rw z (omega arith))
    (λ (b : i < n). let r = counted p n i b e in omega arith)
    (eq-or-lt_of_le (le_of_suc-le-suc h))

-- two indices that pass are the same, where at most one is counted
pub single : (p : ℕ → Bool) (n : ℕ) → count_where p n ≤ 1 → (i j : ℕ) → i < n → j < n → p i ≡ true → p j ≡ true → i ≡ j
unfolding count_where
single p zero l i j h k e f = absurd (not-suc-le-zero h)
single p (suc n) l i j h k e f =
    ⊎_elim
    (λ (q : i ≡ n). ⊎_elim
    (λ (r : j ≡ n). q ∙ sym r)
    (λ (b : j < n). let z : p n ≡ true = rw q at e in absurd (twice (p n) z l (counted p n j b f)))
    (eq-or-lt_of_le (le_of_suc-le-suc k)))
    (λ (a : i < n). ⊎_elim
    (λ (r : j ≡ n). let z : p n ≡ true = rw r at f in absurd (twice (p n) z l (counted p n i a e)))
    (λ (b : j < n). single p n (omega arith) i j a b e f)
    (eq-or-lt_of_le (le_of_suc-le-suc k)))
    (eq-or-lt_of_le (le_of_suc-le-suc h))
  where
    twice : (v : Bool) → v ≡ true → count_where p n + bit v ≤ 1 → 1 ≤ count_where p n → ⊥
    twice v z l c = let w = rw z at l in omega arith

-- where a test holds nowhere nothing is counted
uncounted : (p : ℕ → Bool) (n : ℕ) → ((i : ℕ) → i < n → p i ≡ true → ⊥) → count_where p n ≡ 0
unfolding count_where
uncounted p zero never = refl
uncounted p (suc n) never = by_cases (p n) refl (uncounted p n (λ (i : ℕ) (h : i < n) e. never i (omega arith) e))
  where
    by_cases : (v : Bool) → p n ≡ v → count_where p n ≡ 0 → count_where p n + bit v ≡ 0
    by_cases true e r = absurd (never n (le_refl (suc n)) e)
    by_cases false e r = omega arith

-- at most one is counted, where any two are the same
single-counted : (p : ℕ → Bool) (n : ℕ) → ((i j : ℕ) → i < n → j < n → p i ≡ true → p j ≡ true → i ≡ j) → count_where p n ≤ 1
unfolding count_where
single-counted p zero s = zero-le
single-counted p (suc n) s = by_cases (p n) refl (single-counted p n (λ (i j : ℕ) (h : i < n) (k : j < n) e f. s i j (omega arith) (omega arith) e f))
  where
    under : (i : ℕ) → i < n → i ≡ n → ⊥
    under i h e = omega arith

    by_cases : (v : Bool) → p n ≡ v → count_where p n ≤ 1 → count_where p n + bit v ≤ 1
    by_cases true e r =
        let z : count_where p n ≡ 0 = uncounted p n (λ (i : ℕ) (h : i < n) f. under i h (s i n (omega arith) (le_refl (suc n)) f e)) in
        omega arith
    by_cases false e r = omega arith

module _ (cost : List Float) (n m : ℕ) (t : Float) where
  pub simple-one : simple cost n m t ≡ true → OneAbove cost n m t
  unfolding above
  simple-one e = record {
    in_row = λ (i j k : ℕ) (h : i < n). single (mask cost m t i) m (rows-low cost n m t e i h) j k;
    in-column = λ (j i k : ℕ) (h : j < m). single (λ r. mask cost m t r j) n (cols-low cost n m t e j h) i k;
  }

  pub one-simple : OneAbove cost n m t → simple cost n m t ≡ true
  unfolding simple above
  one-simple o =
      let rows : most (row_sum cost m t) n ≤ 1 = most-least (row_sum cost m t) n 1 (λ (i : ℕ) (h : i < n). single-counted (mask cost m t i) m (λ (j k : ℕ). o.in_row i j k h)) in
      let cols : most (col_sum cost n m t) m ≤ 1 = most-least (col_sum cost n m t) m 1 (λ (j : ℕ) (h : j < m). single-counted (λ r. mask cost m t r j) n (λ (i k : ℕ). o.in-column j i k h)) in
      rw (le-leb (most (row_sum cost m t) n) 1 rows, le-leb (most (col_sum cost n m t) m) 1 cols)
