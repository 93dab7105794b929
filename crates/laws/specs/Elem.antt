-- Whether a number is in a list. Assumes nothing.
use Rattle.std.specs.Prelude.{◌≡◌, refl, Bool, true, false, ◌||◌, List, [], ◌∷◌, ◌++◌, ℕ, ◌+◌, ◌≤◌, ◌<◌, ltb, eqb}
use Rattle.std.proofs.Common.{sym, ◌∙◌, zero-add, arith, ltb-true, ltb-false, lt-ltb, le-ltb, eq-eqb, ne_eqb}
use Rattle.laws.specs.Count.{bit}
use Rattle.laws.specs.Occurs.{occurs}

unfoldable pub elem : ℕ → List ℕ → Bool
elem k [] = false
elem k (x ∷ xs) = eqb k x || elem k xs

pub elem-here : (k x : ℕ) (xs : List ℕ) → k ≡ x → elem k (x ∷ xs) ≡ true
unfolding elem
elem-here k x xs e = rw (eq-eqb k x e)

pub elem-behind : (k x : ℕ) (xs : List ℕ) → (k ≡ x → ⊥) → elem k (x ∷ xs) ≡ elem k xs
unfolding elem
elem-behind k x xs n = rw (ne_eqb k x n)

pub elem-none : (k : ℕ) → elem k [] ≡ false
unfolding elem
elem-none k = refl

pub elem-append : (k : ℕ) (xs ys : List ℕ) → elem k (xs ++ ys) ≡ (elem k xs || elem k ys)
unfolding elem
elem-append k [] ys = refl
elem-append k (x ∷ xs) ys = by_cases (eqb k x) (elem-append k xs ys)
  where
    by_cases : (b : Bool) → elem k (xs ++ ys) ≡ (elem k xs || elem k ys) → (b || elem k (xs ++ ys)) ≡ ((b || elem k xs) || elem k ys)
    by_cases true e = refl
    by_cases false e = e

-- what is in a list stands in it at least once
pub elem-occurs : (k : ℕ) (xs : List ℕ) → elem k xs ≡ ltb 0 (occurs k xs)
unfolding elem occurs
elem-occurs k [] = refl
elem-occurs k (x ∷ xs) = by_cases (eqb k x) (elem-occurs k xs)
  where
    by_cases : (b : Bool) → elem k xs ≡ ltb 0 (occurs k xs) → (b || elem k xs) ≡ ltb 0 (bit b + occurs k xs)
    by_cases true e = sym (lt-ltb 0 (1 + occurs k xs) (omega arith))
    by_cases false e = rw zero-add e

pub in-stands : (k : ℕ) (xs : List ℕ) → elem k xs ≡ true → 0 < occurs k xs
in-stands k xs e = ltb-true 0 (occurs k xs) (sym (elem-occurs k xs) ∙ e)

pub stands-in : (k : ℕ) (xs : List ℕ) → 0 < occurs k xs → elem k xs ≡ true
stands-in k xs h = elem-occurs k xs ∙ lt-ltb 0 (occurs k xs) h

pub out_none : (k : ℕ) (xs : List ℕ) → elem k xs ≡ false → occurs k xs ≤ 0
out_none k xs e = ltb-false 0 (occurs k xs) (sym (elem-occurs k xs) ∙ e)

pub none_out : (k : ℕ) (xs : List ℕ) → occurs k xs ≤ 0 → elem k xs ≡ false
none_out k xs h = elem-occurs k xs ∙ le-ltb 0 (occurs k xs) h
