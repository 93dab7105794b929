-- The last index that passes a test: where at most one does, it is the one. Assumes nothing.
use Rattle.std.specs.Prelude.{◌≡◌, refl, Bool, true, false, cond, [], ◌∷◌, ◌++◌, ℕ, zero, suc, ◌+◌, ◌≤◌, ◌<◌, ltb}
use Rattle.std.proofs.Common.{◌∙◌, le_refl, add-one, arith, lt-ltb, le-ltb}
use Rattle.laws.specs.Tab.{tab, indices}
use Rattle.laws.specs.Sieve.{sieve, sieve-more, maybe}
use Rattle.laws.specs.Count.{bit, count_where}

-- the last j below n with p j, or none
unfoldable pub last_where : (ℕ → Bool) → ℕ → ℕ → ℕ
last_where p none zero = none
last_where p none (suc n) = cond (p n) n (last_where p none n)

pub last_none : (p : ℕ → Bool) (none : ℕ) → none ≡ last_where p none 0
unfolding last_where
last_none p none = refl

pub last_more : (p : ℕ → Bool) (none k : ℕ) → cond (p k) k (last_where p none k) ≡ last_where p none (k + 1)
unfolding last_where
last_more p none k = rw add-one

pub last-few : (p : ℕ → Bool) (none n : ℕ) → n ≤ none → last_where p none n ≤ none
unfolding last_where
last-few p none zero h = le_refl none
last-few p none (suc n) h = by_cases (p n) (last-few p none n (omega arith))
  where
    by_cases : (v : Bool) → last_where p none n ≤ none → cond v n (last_where p none n) ≤ none
    by_cases true r = omega arith
    by_cases false r = r

pub last-hit : (p : ℕ → Bool) (none n : ℕ) → n ≤ none → last_where p none n < none → p (last_where p none n) ≡ true
unfolding last_where
last-hit p none zero h l = absurd (itself none l)
  where
    itself : (k : ℕ) → k < k → ⊥
    itself k h = omega arith
last-hit p none (suc n) h l = by_cases (p n) refl (last-hit p none n (omega arith)) l
  where
    by_cases : (v : Bool) → p n ≡ v → (last_where p none n < none → p (last_where p none n) ≡ true) → cond v n (last_where p none n) < none → p (cond v n (last_where p none n)) ≡ true
    by_cases true e r l = e
    by_cases false e r l = r l

sieve-zero : (p : ℕ → Bool) (n : ℕ) → count_where p n ≡ 0 → sieve p (indices n) ≡ []
unfolding count_where tab sieve
sieve-zero p zero h = refl
sieve-zero p (suc n) h = sieve-more p (indices n) n ∙ by_cases (p n) refl (sieve-zero p n (omega arith)) h
  where
    by_cases : (v : Bool) → p n ≡ v → sieve p (indices n) ≡ [] → count_where p n + bit v ≡ 0 → cond v (sieve p (indices n) ++ (n ∷ [])) (sieve p (indices n)) ≡ []
    by_cases true e r h = absurd (no (count_where p n) h)
      where
        no : (k : ℕ) → k + 1 ≡ 0 → ⊥
        no k h = omega arith
    by_cases false e r h = r

-- where a test holds at most once, those for which it holds are the last one
pub sieve-last : (p : ℕ → Bool) (none n : ℕ) → n ≤ none → count_where p n ≤ 1 → sieve p (indices n) ≡ maybe (ltb (last_where p none n) none) (last_where p none n)
unfolding count_where tab sieve last_where
sieve-last p none zero h l = rw (le-ltb none none (le_refl none))
sieve-last p none (suc n) h l = sieve-more p (indices n) n ∙ by_cases (p n) refl (λ k. sieve-last p none n (omega arith) k) l
  where
    by_cases : (v : Bool) → p n ≡ v → (count_where p n ≤ 1 → sieve p (indices n) ≡ maybe (ltb (last_where p none n) none) (last_where p none n)) → count_where p n + bit v ≤ 1
        → cond v (sieve p (indices n) ++ (n ∷ [])) (sieve p (indices n)) ≡ maybe (ltb (cond v n (last_where p none n)) none) (cond v n (last_where p none n))
    by_cases true e r l = let z : count_where p n ≡ 0 = omega arith in rw (sieve-zero p n z, lt-ltb n none (omega arith))
    by_cases false e r l = r (omega arith)
