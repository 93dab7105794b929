-- Decimal digits counted by the power of ten that a number comes to. Assumes nothing.
use mathlib.Core.Path.{◌≡◌, refl, sym, ap, ◌∙◌}
use Prim.Native.Nat.{ℕ, zero, suc, ◌+◌, ◌*◌, ◌^◌, ◌≤◌, ◌<◌, max}
use native.Mathlib.Nat.{lt_of_lt_of_le, pow-succ', pow-le-pow_right}
use native.Mathlib.Decide.{dec_le}
use native.Mathlib.Omega.{arith}
use lib.Dec.{lit<, lit≤}
use lib.Ieee.{Float}
use Rattle.records.specs.Field.{bits}
use Rattle.records_line.specs.Text.{places, digits, decimal, hex}
use Rattle.records_line.proofs.Laws.Digits.{one_place, few-below, enough-places}

-- a power of ten that n comes to, and the next, which it does not
pub places-are : (k n : ℕ) → n < 2 ^ 64 → 10 ^ k ≤ n → n < 10 * 10 ^ k → k + 1 ≡ places n
places-are k n wide low high =
    let few : places n ≤ suc k = few-below 19 k n (rw (pow-succ' 10 k) high) in
    let enough : n < 10 ^ places n = enough-places 19 n (lt_of_lt_of_le wide (lit≤ tt)) in
    by_more (dec_le (suc k) (places n)) few enough
  where
    by_more : Dec (suc k ≤ places n) → places n ≤ suc k → n < 10 ^ places n → k + 1 ≡ places n
    by_more (yes m) few enough = omega arith
    by_more (no m) few enough = let up : 10 ^ places n ≤ 10 ^ k = pow-le-pow_right (lit< tt) (omega arith) in absurd (omega arith)

-- where n is 0, the power is that of 1
pub counted : (k n m : ℕ) → m ≡ max n 1 → n < 2 ^ 64 → 10 ^ k ≤ m → m < 10 * 10 ^ k → k + 1 ≡ places n
counted k zero m e wide low high =
    let one : m ≡ 1 = e ∙ refl in
    places-are k 1 (lit< tt) (omega arith) (omega arith) ∙ one_place 19 1 (lit< tt) ∙ sym (one_place 19 0 (lit< tt))
counted k (suc n) m e wide low high = let same : m ≡ suc n = omega arith in places-are k (suc n) wide (omega arith) (omega arith)

pub decimal-is : (k n : ℕ) → k ≡ places n → digits 10 k n ≡ decimal n
unfolding decimal
decimal-is k n e = ap (λ (j : ℕ). digits 10 j n) e

pub hex-is : (n : ℕ) (x : Float) → n ≡ bits x → digits 16 8 n ≡ hex x
unfolding hex
hex-is n x e = ap (digits 16 8) e
