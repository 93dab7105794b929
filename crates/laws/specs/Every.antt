-- Whether each element of a list passes a test, also one that looks at what the elements before left (`chain`): what a loop that leaves at the first failure gives. Assumes nothing.
use Rattle.std.specs.Prelude.{◌≡◌, Bool, cond, ◌&&◌, length, get_or, drop}
use Rattle.std.proofs.Math.Path.{refl, sym, ap}
use Rattle.std.proofs.Common.{◌∙◌, not-suc-le-zero, le_of_suc-le-suc, add-one, arith, drop_of_length-le}
use Rattle.std.proofs.Math.Bool.{true, false, and_assoc}
use mathlib.Core.List.{List, [], ◌∷◌, ◌++◌}
use Prim.Native.Nat.{ℕ, zero, suc, ◌+◌, ◌≤◌, ◌<◌, zero-le}
use Rattle.std.proofs.Math.Seq.{drop-cons}
use Rattle.laws.specs.Tests.{and_left, and_right}
use Rattle.laws.specs.Sieve.{sieve}
use Rattle.laws.specs.Scan.{scan, lowest}
use Rattle.laws.specs.Tab.{tab, length-tab, tab-at}

module _ {X : Type 0} (p : X → Bool) where
  unfoldable pub every : List X → Bool
  every [] = true
  every (x ∷ xs) = p x && every xs

  pub every-at : (xs : List X) → every xs ≡ true → (i : ℕ) (d : X) → i < length xs → p (get_or xs i d) ≡ true
  unfolding every
  every-at [] e i d h = absurd (not-suc-le-zero h)
  every-at (x ∷ xs) e zero d h = and_left (p x) (every xs) e
  every-at (x ∷ xs) e (suc i) d h = every-at xs (and_right (p x) (every xs) e) i d (le_of_suc-le-suc h)

  pub every_append : (xs ys : List X) → every (xs ++ ys) ≡ (every xs && every ys)
  unfolding every
  every_append [] ys = refl
  every_append (x ∷ xs) ys = ap (λ (b : Bool). p x && b) (every_append xs ys) ∙ sym (and_assoc (p x) (every xs) (every ys))

  pub every_of : (xs : List X) (d : X) → ((i : ℕ) → i < length xs → p (get_or xs i d) ≡ true) → every xs ≡ true
  unfolding every
  every_of [] d h = refl
  every_of (x ∷ xs) d h = rw (h zero (omega arith), every_of xs d (λ i b. h (suc i) (omega arith)))

  pub every-sieve : (q : X → Bool) (xs : List X) → every xs ≡ true → every (sieve q xs) ≡ true
  unfolding every sieve
  every-sieve q [] e = refl
  every-sieve q (x ∷ xs) e = by_cases (q x) (every-sieve q xs (and_right (p x) (every xs) e))
    where
      by_cases : (b : Bool) → every (sieve q xs) ≡ true → every (cond b (x ∷ sieve q xs) (sieve q xs)) ≡ true
      by_cases true r = rw (and_left (p x) (every xs) e) r
      by_cases false r = r

module _ {S X : Type 0} (ok : S → X → Bool) (next : S → X → S) where
  -- s is what the elements before left
  unfoldable pub chain : S → List X → Bool
  chain s [] = true
  chain s (x ∷ xs) = ok s x && chain (next s x) xs

-- what such a loop knows at element i, where s is left: what is to come decides
pub record Chaining {S X : Type 0} (ok : S → X → Bool) (next : S → X → S) (s₀ : S) (xs : List X) (i : ℕ) (s : S) : Type 0 where
  pub upto : i ≤ length xs
  pub rest : chain ok next s (drop i xs) ≡ chain ok next s₀ xs

module _ {S X : Type 0} (ok : S → X → Bool) (next : S → X → S) (s₀ : S) (g : ℕ → X) (n : ℕ) where
  pub chain-start : Chaining ok next s₀ (tab g n) 0 s₀
  chain-start = record { upto = zero-le; rest = refl }

  pub chain-ends : {i : ℕ} {s : S} → Chaining ok next s₀ (tab g n) i s → n ≤ i → true ≡ chain ok next s₀ (tab g n)
  unfolding chain
  chain-ends {i} {s} w h =
      let e : chain ok next s (drop i (tab g n)) ≡ true = rw (drop_of_length-le (tab g n) {i = i} (rw (length-tab g n) h)) in
      sym e ∙ w.rest

  -- t is element i, and r the outcome of its test, as the code has them
  module _ {i : ℕ} {s : S} {t : X} {r : Bool} (w : Chaining ok next s₀ (tab g n) i s) (h : i < n) (e : t ≡ g i) (o : r ≡ ok s t) where
    here : chain ok next s (drop i (tab g n)) ≡ (r && chain ok next (next s t) (drop (suc i) (tab g n)))
    unfolding chain
    here = rw (o, e, drop-cons (tab g n) i (g i) (rw (length-tab g n) h), tab-at g n i (g i) h)

    pub chain-on : r ≡ true → Chaining ok next s₀ (tab g n) (i + 1) (next s t)
    chain-on q =
        let p : chain ok next s (drop i (tab g n)) ≡ chain ok next (next s t) (drop (suc i) (tab g n)) = here ∙ ap (λ (b : Bool). b && chain ok next (next s t) (drop (suc i) (tab g n))) q in
        record { upto = rw (length-tab g n) (omega arith); rest = rw add-one (sym p ∙ w.rest) }

    pub chain_fails : r ≡ false → false ≡ chain ok next s₀ (tab g n)
    chain_fails q = sym (here ∙ ap (λ (b : Bool). b && chain ok next (next s t) (drop (suc i) (tab g n))) q) ∙ w.rest

-- a test that looks at nothing before
pub every-chain : {S X : Type 0} (p : X → Bool) (s : S) (xs : List X) → chain (λ (_ : S) (x : X). p x) (λ (s : S) (_ : X). s) s xs ≡ every p xs
unfolding chain every
every-chain p s [] = refl
every-chain p s (x ∷ xs) = ap (λ (b : Bool). p x && b) (every-chain p s xs)

-- ---- the lowest index at which a test holds: where there is none, it fails at each

scan-none : (p : ℕ → Bool) (k r i : ℕ) → k + r ≤ scan p k r → i < r → p (k + i) ≡ false
unfolding scan
scan-none p k zero i h b = absurd (not-suc-le-zero b)
scan-none p k (suc r) i h b = by_cases (p k) refl h i b (scan-none p (suc k) r)
  where
    by_cases : (t : Bool) → p k ≡ t → k + suc r ≤ cond t k (scan p (suc k) r) → (i : ℕ) → i < suc r
        → ((i : ℕ) → suc k + r ≤ scan p (suc k) r → i < r → p (suc k + i) ≡ false) → p (k + i) ≡ false
    by_cases true e h i b f = absurd (omega arith)
    by_cases false e h zero b f = let z : k + 0 ≡ k = omega arith in rw z e
    by_cases false e h (suc i) b f = let z : k + suc i ≡ suc k + i = omega arith in rw z (f i (omega arith) (le_of_suc-le-suc b))

pub lowest-none : (p : ℕ → Bool) (n : ℕ) → n ≤ lowest p n → (i : ℕ) → i < n → p i ≡ false
lowest-none p n h i b = let z : 0 + i ≡ i = omega arith in rw z at (scan-none p 0 n i (omega arith) b)
