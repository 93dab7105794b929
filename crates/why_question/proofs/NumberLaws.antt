-- A word read digit by digit. Assumes nothing.
use mathlib.Core.Path.{◌≡◌, refl, sym, ap, ◌∙◌}
use mathlib.Core.Bool.{Bool, true, false, ◌||◌}
use mathlib.Core.List.{List, [], ◌∷◌}
use Prim.Native.Nat.{ℕ, zero, suc, ◌+◌, ◌≤◌, ◌<◌}
use native.Mathlib.Nat.{not-suc-le-zero}
use native.Mathlib.Numerals.{add-one}
use native.Mathlib.Omega.{arith}
use borrow.Author.Tests.{ltb-false, leb-false}
use lib.Dec.{leb, ltb}
use Rattle.laws.specs.Tests.{false_not_true}
use lib.ListN.{length, get_or, drop, drop_of_length-le}
use lib.Seq.{drop-cons}
use Rattle.std.proofs.Common.{Option, Some, None}
use Rattle.why_question.specs.Question.{longer, where_digits, digits_behind, number_of}

-- at place i: what is left gives the whole
abbrev pub Reading : List ℕ → ℕ → ℕ → Type 0
Reading word i n = digits_behind n (drop i word) ≡ number_of word

module _ (word : List ℕ) where
  pub read-start : 0 < length word → Reading word 0 0
  unfolding number_of
  read-start h = by_cases word h
    where
      by_cases : (w : List ℕ) → 0 < length w → digits_behind 0 (drop 0 w) ≡ number_of w
      by_cases [] h = absurd (not-suc-le-zero h)
      by_cases (b ∷ bs) h = refl

  module _ (i n : ℕ) (r : Reading word i n) (h : i < length word) where
    step : digits_behind n (drop i word) ≡ where_digits (longer n (get_or word i 0)) (λ (m : ℕ). digits_behind m (drop (suc i) word))
    unfolding digits_behind
    step = ap (digits_behind n) (drop-cons word i 0 h)

    pub read_other : {x : Option ℕ} → x ≡ longer n (get_or word i 0) → x ≡ None → None ≡ number_of word
    read_other e q = sym (ap (λ (y : Option ℕ). where_digits y (λ (m : ℕ). digits_behind m (drop (suc i) word))) (sym e ∙ q)) ∙ sym step ∙ r

    pub read-on : {x : Option ℕ} {more : ℕ} → x ≡ longer n (get_or word i 0) → x ≡ Some more → Reading word (i + 1) more
    read-on {x} {more} e q =
        rw add-one (sym (ap (λ (y : Option ℕ). where_digits y (λ (m : ℕ). digits_behind m (drop (suc i) word))) (sym e ∙ q)) ∙ sym step ∙ r)

  pub read-end : (i n : ℕ) → Reading word i n → length word ≤ i → Some n ≡ number_of word
  unfolding digits_behind
  read-end i n r h = sym (ap (digits_behind n) (drop_of_length-le word {i = i} h)) ∙ r

  pub read_none : length word ≡ 0 → None ≡ number_of word
  unfolding number_of
  read_none h = by_cases word (omega (arith, h))
    where
      by_cases : (w : List ℕ) → length w ≤ 0 → None ≡ number_of w
      by_cases [] h = refl
      by_cases (b ∷ bs) h = absurd (not-suc-le-zero h)

  pub some_bytes : (length word ≡ 0 → ⊥) → 0 < length word
  some_bytes h = by_cases (length word) refl
    where
      by_cases : (n : ℕ) → length word ≡ n → 0 < n
      by_cases zero q = absurd (h q)
      by_cases (suc n) q = omega arith

-- ---- a digit

pub longer-low : (n b : ℕ) → ((ltb b 48 || ltb 57 b) || leb 1000000000 n) ≡ false → (48 ≤ b) × (b ≤ 57) × (n < 1000000000)
longer-low n b h = by_cases (ltb b 48) refl (ltb 57 b) refl (leb 1000000000 n) refl h
  where
    by_cases : (u : Bool) → ltb b 48 ≡ u → (v : Bool) → ltb 57 b ≡ v → (w : Bool) → leb 1000000000 n ≡ w → ((u || v) || w) ≡ false → (48 ≤ b) × (b ≤ 57) × (n < 1000000000)
    by_cases true p v q w r e = absurd (false_not_true (sym e))
    by_cases false p true q w r e = absurd (false_not_true (sym e))
    by_cases false p false q true r e = absurd (false_not_true (sym e))
    by_cases false p false q false r e = (ltb-false b 48 p, ltb-false 57 b q, leb-false 1000000000 n r)
