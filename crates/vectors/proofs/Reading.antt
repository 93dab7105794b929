-- What a loop that fills a slice from the input knows. Assumes nothing.
use mathlib.Core.Path.{◌≡◌, refl, subst, ◌∙◌}
use mathlib.Core.Logic.{◌⊎◌, inl, inr}
use mathlib.Core.List.{List}
use Prim.Native.Nat.{ℕ, ◌+◌, ◌≤◌, ◌<◌, zero-le}
use native.Mathlib.Nat.{not-le_of_lt, eq-or-lt_of_le, ne_of_lt, not-suc-le-zero}
use native.Mathlib.Omega.{arith}
use lib.ListN.{length, get_or, set, length-set}
use lib.Seq.{get_or-set_same, get_or-set_other}
use Rattle.vectors.specs.Words.{RestIs}

-- an element that is given is not one behind those
pub given-one : {A : Type 0} {k given : ℕ} {x rest : A} → k < given → given ≤ k → x ≡ rest
given-one h g = absurd (not-le_of_lt h g)

-- before index k
pub record Reading {A : Type 0} (rest : A) (given : ℕ) (before : List A) (k : ℕ) (l : List A) : Type 0 where
  pub upto : k ≤ length l
  pub same : length l ≡ length before
  pub rests : (z : A) (i : ℕ) → given ≤ i → i < k → get_or l i z ≡ rest

-- the element at i after a store at k
stored : {A : Type 0} (z rest : A) (given k i : ℕ) (l : List A) (x : A) → k < length l → (given ≤ k → x ≡ rest) → (i < k → get_or l i z ≡ rest) → given ≤ i → (i ≡ k) ⊎ (i < k) → get_or (set l k x) i z ≡ rest
stored z rest given k i l x h e old g (inl q) = rw q (get_or-set_same l k x z h ∙ e (subst (λ (n : ℕ). given ≤ n) q g))
stored z rest given k i l x h e old g (inr b) = get_or-set_other l k i x z (ne_of_lt b) ∙ old b

module _ {A : Type 0} {rest : A} {given : ℕ} {before : List A} where
  pub read-start : Reading rest given before 0 before
  read-start = record { upto = zero-le; same = refl; rests = λ z i g h. absurd (not-suc-le-zero h) }

  pub read-on : {k : ℕ} {l : List A} {x : A} → Reading rest given before k l → k < length l → (given ≤ k → x ≡ rest) → Reading rest given before (k + 1) (set l k x)
  read-on {k} {l} {x} w h e =
      record {
        upto = rw (length-set l k x) (omega arith);
        same = length-set l k x ∙ w.same;
        rests = λ z i g b. stored z rest given k i l x h e (w.rests z i g) g (eq-or-lt_of_le (omega arith));
      }

  pub read-end : {k : ℕ} {l : List A} → Reading rest given before k l → length l ≤ k → (z : A) → RestIs z rest given l
  read-end w h z i g b = w.rests z i g (omega (arith, h, b))
