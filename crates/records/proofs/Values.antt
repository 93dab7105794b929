-- What one, four and eight bytes are read as, and the bytes of a number as std gives them. Assumes nothing.
use mathlib.Core.Path.{◌≡◌, refl, ap, ◌∙◌}
use mathlib.Core.List.{List, [], ◌∷◌}
use Prim.Native.Nat.{ℕ, zero, suc, ◌/◌, ◌%◌, ◌^◌}
use native.Mathlib.Nat.{div-div-eq-div-mul, pow-suc}
use native.Mathlib.Omega.{arith}
use lib.ListN.{length, get_or}
use Rattle.std.specs.Int.{w32, w64, byte_at, bytes_low_first, from_le_bytes}
use Rattle.records.specs.Field.{value, little_endian}

pub one_byte : (l : List ℕ) → length l ≡ 1 → get_or l 0 0 ≡ value l
unfolding value
one_byte [] e = absurd (omega arith)
one_byte (a ∷ []) e = omega arith
one_byte (a ∷ b ∷ l) e = absurd (omega arith)

pub value-four : (l : List ℕ) → length l ≡ 4 → from_le_bytes w32 (get_or l 0 0 ∷ get_or l 1 0 ∷ get_or l 2 0 ∷ get_or l 3 0 ∷ []) ≡ value l
unfolding value
value-four [] e = absurd (omega arith)
value-four (a ∷ []) e = absurd (omega arith)
value-four (a ∷ b ∷ []) e = absurd (omega arith)
value-four (a ∷ b ∷ c ∷ []) e = absurd (omega arith)
value-four (a ∷ b ∷ c ∷ d ∷ []) e = omega arith
value-four (a ∷ b ∷ c ∷ d ∷ x ∷ l) e = absurd (omega arith)

pub value-eight : (l : List ℕ) → length l ≡ 8
    → from_le_bytes w64 (get_or l 0 0 ∷ get_or l 1 0 ∷ get_or l 2 0 ∷ get_or l 3 0 ∷ get_or l 4 0 ∷ get_or l 5 0 ∷ get_or l 6 0 ∷ get_or l 7 0 ∷ []) ≡ value l
unfolding value
value-eight (a ∷ b ∷ c ∷ d ∷ p ∷ q ∷ r ∷ s ∷ []) e = omega arith
value-eight l e = absurd (omega arith)

-- std's bytes of a number are those of the definition
byte_is : (i n : ℕ) → byte_at i n ≡ n / 256 ^ i % 256
byte_is zero n = omega arith
byte_is (suc i) n = refl

pub low_first : (k i n : ℕ) → bytes_low_first i k n ≡ little_endian k (n / 256 ^ i)
unfolding little_endian
low_first zero i n = refl
low_first (suc k) i n =
    rw (byte_is i n, low_first k (suc i) n) (ap (λ (m : ℕ). n / 256 ^ i % 256 ∷ little_endian k m) (ap (λ (m : ℕ). n / m) (pow-suc 256 i) ∙ rw div-div-eq-div-mul))
