-- A cascade of tests, `cond b₁ a₁ (cond b₂ a₂ (.. d))`: what is known of the tests where it gives d. Assumes nothing.
use Rattle.std.specs.Prelude.{◌≡◌, refl, Bool, true, false, cond, not, ℕ, ◌≤◌, eqb, leb}
use Rattle.std.proofs.Common.{sym, ◌∙◌, lt_of_not-le, eq-eqb, ne_eqb, le-leb}
use Rattle.std.proofs.Math.Decide.{dec_le}
use Rattle.std.proofs.lemmas.Bool.{lt-leb}

module _ {A : Type 0} where
  -- the test failed, where its own answer is not d
  pub cond_no : (b : Bool) (a c d : A) → (a ≡ d → ⊥) → cond b a c ≡ d → (b ≡ false) × (c ≡ d)
  cond_no true a c d n e = absurd (n e)
  cond_no false a c d n e = (refl, e)

  -- the test held, where the other answer is not d
  pub cond_yes : (b : Bool) (a c d : A) → (c ≡ d → ⊥) → cond b a c ≡ d → (b ≡ true) × (a ≡ d)
  cond_yes true a c d n e = (refl, e)
  cond_yes false a c d n e = absurd (n e)

-- what a test of `!f(..)` tells of the definition that the result of f equals
pub not_carried : {r b v : Bool} → r ≡ b → not r ≡ v → not b ≡ v
not_carried e h = rw e at h

-- an equality and an order that hold together are one truth value
pub eqb_leb : (a b c d : ℕ) → (a ≡ b → c ≤ d) → (c ≤ d → a ≡ b) → eqb a b ≡ leb c d
eqb_leb a b c d f g = by_cases (dec_le c d)
  where
    by_cases : Dec (c ≤ d) → eqb a b ≡ leb c d
    by_cases (yes h) = eq-eqb a b (g h) ∙ sym (le-leb c d h)
    by_cases (no n) = ne_eqb a b (λ e. n (f e)) ∙ sym (lt-leb c d (lt_of_not-le n))
