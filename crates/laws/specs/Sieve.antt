-- Those of a list that pass a test, in its order: what a loop that keeps some of what it meets gives. Assumes nothing.
use Rattle.std.specs.Prelude.{◌≡◌, Bool, cond, not, get_or}
use Rattle.std.proofs.Math.Path.{refl}
use Rattle.std.proofs.Common.{◌∙◌, not-suc-le-zero, le_of_suc-le-suc}
use Rattle.std.proofs.Math.Bool.{true, false}
use mathlib.Core.List.{List, [], ◌∷◌, ◌++◌, append-nil}
use Prim.Native.Nat.{ℕ, zero, suc, ◌+◌, ◌≤◌, ◌<◌, zero-le}
use native.Mathlib.Omega.{arith}
use Rattle.std.proofs.Math.ListN.{length}

-- x alone, or nothing
abbrev pub maybe : {X : Type 0} → Bool → X → List X
maybe b x = cond b (x ∷ []) []

module _ {X : Type 0} (p : X → Bool) where
  unfoldable pub sieve : List X → List X
  sieve [] = []
  sieve (x ∷ xs) = cond (p x) (x ∷ sieve xs) (sieve xs)

  before : (b : Bool) (x : X) (us vs : List X) → cond b (x ∷ (us ++ vs)) (us ++ vs) ≡ cond b (x ∷ us) us ++ vs
  before true x us vs = refl
  before false x us vs = refl

  pub sieve-append : (xs ys : List X) → sieve (xs ++ ys) ≡ sieve xs ++ sieve ys
  unfolding sieve
  sieve-append [] ys = refl
  sieve-append (x ∷ xs) ys = rw (sieve-append xs ys) (before (p x) x (sieve xs) (sieve ys))

  behind : (b : Bool) (x : X) (us : List X) → us ++ maybe b x ≡ cond b (us ++ (x ∷ [])) us
  behind true x us = refl
  behind false x us = append-nil us

  -- one more is looked at
  pub sieve-more : (xs : List X) (x : X) → sieve (xs ++ (x ∷ [])) ≡ cond (p x) (sieve xs ++ (x ∷ [])) (sieve xs)
  unfolding sieve
  sieve-more xs x = sieve-append xs (x ∷ []) ∙ behind (p x) x (sieve xs)

  -- where all pass none is left out
  pub sieve-all : ((x : X) → p x ≡ true) → (xs : List X) → sieve xs ≡ xs
  unfolding sieve
  sieve-all e [] = refl
  sieve-all e (x ∷ xs) = rw (e x, sieve-all e xs)

  pub sieve-few : (xs : List X) → length (sieve xs) ≤ length xs
  unfolding sieve
  sieve-few [] = zero-le
  sieve-few (x ∷ xs) = by_cases (p x) (sieve-few xs)
    where
      by_cases : (b : Bool) → length (sieve xs) ≤ length xs → length (cond b (x ∷ sieve xs) (sieve xs)) ≤ suc (length xs)
      by_cases true h = omega arith
      by_cases false h = omega arith

  -- what is kept passes
  pub sieve-at : (xs : List X) (i : ℕ) (d : X) → i < length (sieve xs) → p (get_or (sieve xs) i d) ≡ true
  unfolding sieve
  sieve-at [] i d h = absurd (not-suc-le-zero h)
  sieve-at (x ∷ xs) i d h = by_cases (p x) refl i h (sieve-at xs)
    where
      by_cases : (b : Bool) → p x ≡ b → (i : ℕ) → i < length (cond b (x ∷ sieve xs) (sieve xs)) → ((i : ℕ) (d : X) → i < length (sieve xs) → p (get_or (sieve xs) i d) ≡ true)
          → p (get_or (cond b (x ∷ sieve xs) (sieve xs)) i d) ≡ true
      by_cases true e zero h r = e
      by_cases true e (suc i) h r = r i d (le_of_suc-le-suc h)
      by_cases false e i h r = r i d h

-- tests that agree on a list's elements keep the same
pub sieve_agree : {X : Type 0} (p q : X → Bool) (xs : List X) (d : X) → ((i : ℕ) → i < length xs → p (get_or xs i d) ≡ q (get_or xs i d)) → sieve p xs ≡ sieve q xs
unfolding sieve
sieve_agree p q [] d e = refl
sieve_agree p q (x ∷ xs) d e =
    let first : p x ≡ q x = e 0 (omega arith) in
    rw (first, sieve_agree p q xs d (λ i h. e (suc i) (omega arith)))

-- those that pass a test and those that do not are all
pub sieve_both : {X : Type 0} (p : X → Bool) (xs : List X) → length (sieve p xs) + length (sieve (λ x. not (p x)) xs) ≡ length xs
unfolding sieve
sieve_both p [] = refl
sieve_both p (x ∷ xs) = by_cases (p x) (sieve_both p xs)
  where
    by_cases : (b : Bool) → length (sieve p xs) + length (sieve (λ x. not (p x)) xs) ≡ length xs
        → length (cond b (x ∷ sieve p xs) (sieve p xs)) + length (cond (not b) (x ∷ sieve (λ x. not (p x)) xs) (sieve (λ x. not (p x)) xs)) ≡ suc (length xs)
    by_cases true e = omega arith
    by_cases false e = omega arith
