-- THE THEOREMS of a number, over every text, every m and every k at once. `laws` of proofs/Theorem.antt proves them.
use Rattle.std.specs.Prelude.{◌≡◌, Bool, true, cond, List, ◌⊎◌, ℕ, ◌+◌, ◌-◌, ◌*◌, ◌%◌, ◌^◌, ◌≤◌, ◌<◌, T, pos, Float}
use Rattle.std.specs.Bool.{beq}
use Rattle.std.specs.Float.{fin, binary32}
use Rattle.std.specs.Float.Ieee.{fits}
use Rattle.std.specs.Float.Ieee.Exact.{HasValue}
use Rattle.mot_number.specs.Number.{is_number, decimal_of, rounded, f32_of}
use Rattle.mot_number.specs.Numeral.{Numeral, text_of, value_of}

-- ---- how far two numbers are apart, and two numbers with signs

abbrev pub dist : ℕ → ℕ → ℕ
dist a b = (a - b) + (b - a)

abbrev pub apart : Bool → ℕ → Bool → ℕ → ℕ
apart s a t b = cond (beq s t) (dist a b) (a + b)

-- ---- r is the f32 nearest to ± num / den

-- In units of 2^-149, the smallest f32, the fraction is num × 2^149 / den and r is M × 2^k, so that times den all distances are whole numbers. M has the 24 digits of an f32, or is 2^24; fewer
-- only where 2^k is the unit itself. So 2^k is one unit in the last place of r, and half of one where M is 2^24.
pub record NearestFraction (s : Bool) (num den : ℕ) (r : Float) : Type 0 where
  pub M : ℕ
  pub k : ℕ
  pub value : HasValue r s (M * 2 ^ k) (2 ^ 149)
  pub most : M ≤ 2 ^ 24
  pub least : 0 < k → 2 ^ 23 ≤ M
  -- no f32 x, which is ± a units, is nearer
  pub nearest : (x : Float) (t : Bool) (a : ℕ) → T (fits binary32 x) → HasValue x t a (2 ^ 149) → apart s (num * 2 ^ 149) s (M * 2 ^ k * den) ≤ apart s (num * 2 ^ 149) t (a * den)
  -- where one is as near, and is not the same number, the last digit of r is even
  pub even : (x : Float) (t : Bool) (a : ℕ) → T (fits binary32 x) → HasValue x t a (2 ^ 149)
      → apart s (num * 2 ^ 149) t (a * den) ≡ apart s (num * 2 ^ 149) s (M * 2 ^ k * den) → (a ≡ M * 2 ^ k) ⊎ (M % 2 ≡ 0)
  -- the fraction and r differ by at most half a unit in the last place of r
  pub half : 2 * dist (num * 2 ^ 149) (M * 2 ^ k * den) ≤ 2 ^ k * den

-- ---- the theorems

pub record Laws : Type 0 where
  -- each number that is written is a number, with the value that its digits say
  pub reads : (n : Numeral) → (is_number (text_of n) ≡ true) × (decimal_of (text_of n) ≡ value_of n)
  -- and no other text is one
  pub only : (t : List ℕ) → is_number t ≡ true → (n : Numeral) × (t ≡ text_of n)
  -- its f32 is the nearest, a tie goes to the even one: for every m of up to 38 digits and every k, so for every length of number
  pub nearest : (negative : Bool) (m k : ℕ) → m < 2 ^ 127 → NearestFraction negative m (10 ^ k) (rounded negative m k)
  -- a number that is printed with up to six and six digits and read back: the f32 that is read is the nearest to it, and so within half a unit in its last place
  pub read_back : (n : Numeral) → NearestFraction n.negative (value_of n).m (10 ^ (value_of n).k) (f32_of (decimal_of (text_of n)))
  -- a minus before zero gives minus zero, however many digits it has
  pub minus-zero : (negative : Bool) (k : ℕ) → rounded negative 0 k ≡ fin negative 0 (pos 0)
