-- `laws`: what specs/Laws.antt states holds. Assumes nothing.
use mathlib.Core.Path.{sym, subst}
use mathlib.Core.Bool.{Bool}
use mathlib.Core.List.{◌++◌}
use Prim.Native.Nat.{ℕ, ◌+◌, ◌*◌, ◌^◌, ◌≤◌, ◌<◌}
use native.Mathlib.Nat.{le_trans, le_of_eq, lt_of_lt_of_le, mul-one, mul-le-mul_left, one-le-pow, pow-le-pow_right}
use native.Mathlib.Omega.{arith}
use lib.Dec.{lit<, lit≤}
use lib.ListN.{length, length-append}
use Rattle.mot_number.specs.Number.{Decimal, decimal_of, rounded, f32_of}
use Rattle.mot_number.specs.Numeral.{Numeral, text_of, value_of}
use Rattle.mot_number.specs.Laws.{NearestFraction, Laws}
use Rattle.mot_number.proofs.Rounded.{round_zero, round_nearest}
use Rattle.mot_number.proofs.Reading.{text-is-number, text_has_value, number-only, digits-short, digits_append}

decimal-nearest : (negative : Bool) (m k : ℕ) → m < 2 ^ 127 → NearestFraction negative m (10 ^ k) (rounded negative m k)
decimal-nearest negative m k h =
    let p : 1 ≤ 10 ^ k = one-le-pow k 10 (lit< tt) in
    round_nearest negative m (10 ^ k) p (lt_of_lt_of_le h (le_trans (le_of_eq (sym (mul-one (2 ^ 127)))) (mul-le-mul_left (2 ^ 127) p)))

-- the digits of a number make less than 10^12
numeral_short : (n : Numeral) → (value_of n).m < 2 ^ 127
numeral_short n =
    let l = length-append n.whole n.behind in
    let w = n.whole-most in
    let b = n.behind-most in
    let s : (value_of n).m + 1 ≤ 1 * 10 ^ length (n.whole ++ n.behind) = digits-short 0 (n.whole ++ n.behind) (digits_append n.whole n.behind n.whole-digits n.behind-digits) in
    let p : 10 ^ length (n.whole ++ n.behind) ≤ 10 ^ 12 = pow-le-pow_right (lit< tt) {i = length (n.whole ++ n.behind)} {j = 12} (omega arith) in
    lt_of_lt_of_le (below (value_of n).m (10 ^ length (n.whole ++ n.behind)) s p) (lit≤ tt)
  where
    below : (m y : ℕ) → m + 1 ≤ 1 * y → y ≤ 10 ^ 12 → m < 10 ^ 12
    below m y h g = omega arith

text-nearest : (n : Numeral) → NearestFraction n.negative (value_of n).m (10 ^ (value_of n).k) (f32_of (decimal_of (text_of n)))
text-nearest n =
    subst (λ (d : Decimal). NearestFraction n.negative (value_of n).m (10 ^ (value_of n).k) (f32_of d)) (sym (text_has_value n))
    (decimal-nearest n.negative (value_of n).m (value_of n).k (numeral_short n))

pub laws : Laws
laws = record {
  reads = λ n. (text-is-number n, text_has_value n);
  only = number-only;
  nearest = decimal-nearest;
  read_back = text-nearest;
  minus-zero = λ negative k. round_zero negative (10 ^ k) (one-le-pow k 10 (lit< tt));
}
