-- The lowest index at which a test holds: what a loop that leaves at the first hit gives. Assumes nothing.
use Rattle.std.specs.Prelude.{◌≡◌, refl, Bool, true, false, cond, ℕ, zero, suc, ◌+◌, ◌-◌, ◌≤◌, ◌<◌}
use Rattle.std.proofs.Common.{sym, ◌∙◌, zero-le, add-one}
use native.Mathlib.Omega.{arith}

-- the first of k, k + 1, .. k + r - 1 at which p holds, or k + r
unfoldable pub scan : (ℕ → Bool) → ℕ → ℕ → ℕ
scan p k zero = k
scan p k (suc r) = cond (p k) k (scan p (suc k) r)

-- the lowest index below n at which p holds, or n
abbrev pub lowest : (ℕ → Bool) → ℕ → ℕ
lowest p n = scan p 0 n

-- tests that agree at each index
pub scan_ext : (p r : ℕ → Bool) (k n : ℕ) → ((j : ℕ) → j < k + n → p j ≡ r j) → scan p k n ≡ scan r k n
unfolding scan
scan_ext p r k zero e = refl
scan_ext p r k (suc n) e = rw (e k (omega arith), scan_ext p r (suc k) n (λ j h. e j (omega arith)))

scan_never : (k n : ℕ) → scan (λ _. false) k n ≡ k + n
unfolding scan
scan_never k zero = omega arith
scan_never k (suc n) = scan_never (suc k) n ∙ omega arith

-- a test that fails at each index
pub lowest_never : (p : ℕ → Bool) (n : ℕ) → ((i : ℕ) → i < n → p i ≡ false) → lowest p n ≡ n
lowest_never p n none = scan_ext p (λ _. false) 0 n (λ j h. none j (omega (arith, h))) ∙ scan_never 0 n ∙ omega arith

-- what a loop that looks for the first hit knows at k: the hit is the first from k on
pub record Scanning (p : ℕ → Bool) (n k : ℕ) : Type 0 where
  pub upto : k ≤ n
  pub rest : lowest p n ≡ scan p k (n - k)

module _ (p : ℕ → Bool) (n : ℕ) where
  left : (k : ℕ) → k < n → n - k ≡ suc (n - (k + 1))
  left k h = omega arith

  hit : (k : ℕ) → k < n → p k ≡ true → scan p k (n - k) ≡ k
  unfolding scan
  hit k h e = rw (left k h, e)

  on : (k : ℕ) → k < n → p k ≡ false → scan p k (n - k) ≡ scan p (k + 1) (n - (k + 1))
  unfolding scan
  on k h e = rw (left k h, e, add-one)

  end : (k : ℕ) → n ≤ k → scan p k (n - k) ≡ k
  unfolding scan
  end k h = let z : n - k ≡ 0 = omega arith in rw z

  pub scan-begin : Scanning p n 0
  scan-begin = let e : n - 0 ≡ n = omega arith in record { upto = zero-le; rest = rw e }

  -- r is the test's outcome at k, as the code has it
  pub scan-next : {k : ℕ} {r : Bool} → Scanning p n k → k < n → r ≡ p k → r ≡ false → Scanning p n (k + 1)
  scan-next {k} {r} s h e f = record { upto = omega arith; rest = s.rest ∙ on k h (sym e ∙ f) }

  pub scan-found : {k : ℕ} {r : Bool} → Scanning p n k → k < n → r ≡ p k → r ≡ true → k ≡ lowest p n
  scan-found {k} {r} s h e t = sym (s.rest ∙ hit k h (sym e ∙ t))

  pub scan-done : {k : ℕ} → Scanning p n k → n ≤ k → k ≡ lowest p n
  scan-done {k} s h = sym (s.rest ∙ end k h)
