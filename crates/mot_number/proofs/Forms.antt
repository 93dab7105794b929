-- The digits of a text as the code reads them, from the front, and the number that they make. Assumes nothing.
use mathlib.Core.Path.{◌≡◌, refl, sym, ap, ◌∙◌}
use mathlib.Core.Bool.{Bool, true, false, cond, ◌&&◌}
use mathlib.Core.List.{List, ◌∷◌}
use Prim.Native.Nat.{ℕ, ◌+◌, ◌-◌, ◌*◌, ◌^◌, ◌≤◌, ◌<◌}
use native.Mathlib.Nat.{le_trans, le_of_eq, mul_assoc, mul-le-mul, pow-suc, pow-le-pow_right}
use native.Mathlib.Numerals.{add-one}
use native.Mathlib.Omega.{arith}
use lib.Dec.{lit<, leb}
use lib.ListN.{length, drop, get_or, drop_of_length-le}
use lib.Seq.{drop-cons}
use borrow.Author.Tests.{leb-true, lt-leb, le-leb}
use Rattle.laws.specs.Tests.{and_left, and_right}
use Rattle.laws.specs.Every.{every}
use Rattle.std.specs.Prelude.{None, Some}
use Rattle.mot_number.specs.Number.{is_digit, one_to_six, with_digits}
use Rattle.mot_number.specs.Private.{digits_of}

-- a digit's byte, and that the digit is 9 at most
pub digit_low : (b : ℕ) → is_digit b ≡ true → 48 ≤ b
digit_low b h = leb-true _ _ (and_left (leb 48 b) (leb b 57) h)

pub digit_small : (b : ℕ) → is_digit b ≡ true → b - 48 ≤ 9
digit_small b h = let l : b ≤ 57 = leb-true _ _ (and_right (leb 48 b) (leb b 57) h) in omega arith

-- the digits before place i are read, and make `value` behind those that make `before`: what is left decides
pub record Counting (t : List ℕ) (before i value : ℕ) : Type 0 where
  pub upto : i ≤ length t
  pub rest : with_digits value (drop i t) ≡ with_digits before t
  pub all : every is_digit (drop i t) ≡ every is_digit t
  pub short : value + 1 ≤ (before + 1) * 10 ^ i

pub count-start : (t : List ℕ) (before : ℕ) → Counting t before 0 before
count-start t before = record { upto = omega arith; rest = refl; all = refl; short = omega arith }

module _ {t : List ℕ} {before i value : ℕ} (w : Counting t before i value) where
  module _ (h : i < length t) where
    cut : drop i t ≡ get_or t i 0 ∷ drop (i + 1) t
    cut = drop-cons t i 0 h ∙ ap (λ (x : ℕ). get_or t i 0 ∷ drop x t) (sym (add-one i))

    pub count-on : is_digit (get_or t i 0) ≡ true → Counting t before (i + 1) (value * 10 + (get_or t i 0 - 48))
    unfolding with_digits every
    count-on e = record {
      upto = omega arith;
      rest = sym (ap (with_digits value) cut) ∙ w.rest;
      all = sym (ap (every is_digit) cut ∙ ap (λ (b : Bool). b && every is_digit (drop (i + 1) t)) e) ∙ w.all;
      short =
          let p : 10 ^ (i + 1) ≡ 10 ^ i * 10 = ap (λ (x : ℕ). 10 ^ x) (add-one i) ∙ pow-suc 10 i in
          le_trans (grown value (get_or t i 0 - 48) ((before + 1) * 10 ^ i) (digit_small (get_or t i 0) e) w.short) (le_of_eq (mul_assoc (before + 1) (10 ^ i) 10 ∙ ap (λ (x : ℕ). (before + 1) * x) (sym p)));
    }
      where
        grown : (v d y : ℕ) → d ≤ 9 → v + 1 ≤ y → v * 10 + d + 1 ≤ y * 10
        grown v d y a b = omega arith

    pub count_fails : is_digit (get_or t i 0) ≡ false → every is_digit t ≡ false
    unfolding every
    count_fails e = sym w.all ∙ ap (every is_digit) cut ∙ ap (λ (b : Bool). b && every is_digit (drop (i + 1) t)) e

  -- six digits behind six make a number below 10^12
  pub count_small : before < 1000000 → i ≤ 6 → value < 1000000000000
  count_small h g =
      let p : 10 ^ i ≤ 1000000 = pow-le-pow_right (lit< tt) {i = i} {j = 6} g in
      let m : (before + 1) * 10 ^ i ≤ 1000000 * 1000000 = mul-le-mul {n₂ = 1000000} (omega arith) p in
      let s = w.short in
      omega arith

  pub count-ends : length t ≤ i → (every is_digit t ≡ true) × (value ≡ with_digits before t)
  unfolding every with_digits
  count-ends h = let d = drop_of_length-le t h in (sym w.all ∙ ap (every is_digit) d, sym (ap (with_digits value) d) ∙ w.rest)

-- ---- the returns

pub none_read : (t : List ℕ) (before : ℕ) → length t ≡ 0 → None ≡ digits_of before t
unfolding digits_of one_to_six
none_read t before e = rw (lt-leb 1 (length t) (omega arith))

pub many_read : (t : List ℕ) (before : ℕ) → 6 < length t → None ≡ digits_of before t
unfolding digits_of one_to_six
many_read t before h = rw (le-leb 1 (length t) (omega arith), lt-leb (length t) 6 h)

-- a byte that is no digit, however many bytes there are
pub other_read : (t : List ℕ) (before : ℕ) → every is_digit t ≡ false → None ≡ digits_of before t
unfolding digits_of one_to_six
other_read t before e = rw e (by_length (leb 1 (length t) && leb (length t) 6))
  where
    by_length : (b : Bool) → None ≡ cond (b && false) (Some (with_digits before t)) None
    by_length true = refl
    by_length false = refl

pub all_read : (t : List ℕ) (before : ℕ) → (length t ≡ 0 → ⊥) → length t ≤ 6 → (v : ℕ) → (every is_digit t ≡ true) × (v ≡ with_digits before t) → Some v ≡ digits_of before t
unfolding digits_of one_to_six
all_read t before some few v e = rw (le-leb 1 (length t) (omega arith), le-leb (length t) 6 few, e.0) (ap Some e.1)
