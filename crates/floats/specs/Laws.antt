-- THE THEOREMS of the definitions, for every f32. `laws` of proofs/Theorem.antt proves them.
use Rattle.std.specs.Prelude.{◌≡◌, ℕ, ◌+◌, ◌-◌, ◌*◌, ◌^◌, ◌<◌, ◌≤◌, Bool, false, T, ℤ, pos, ◌+ℤ◌, ◌*ℤ◌, from_bits, Float}
use Rattle.std.specs.Float.{fin, binary32}
use Rattle.std.specs.Float.Ieee.{fits, units, lt}
use Rattle.std.specs.Float.Ieee.Exact.{HasValue}
use Rattle.std.specs.Float.Ieee.Positive.{positive}
use Rattle.floats.specs.Root.{root}
use Rattle.floats.specs.Power.{one}
use Rattle.floats.specs.Exponential.{quotient, remainder, L, t, exp}

-- r is the f32 nearest to the root of x. In whole numbers: x is n squares of the unit 2^-149, and r is M × 2^k units, where M has 24 digits, so that 2^k is one unit in the last place of r.
-- Twice the distance of r from the exact root √n is below 2^k: (2 M - 1) × 2^k < 2 √n < (2 M + 1) × 2^k, here squared.
-- Both are strict. So no root of an f32 lies in the middle of two, and "ties to even" never has to decide.
pub record NearestRoot (x r : Float) : Type 0 where
  pub n : ℕ
  pub M : ℕ
  pub k : ℕ
  pub argument : HasValue x false n (2 ^ 298)
  pub result : r ≡ units binary32 false M k
  pub value : HasValue r false (M * 2 ^ k) (2 ^ 149)
  pub least : 2 ^ 23 ≤ M
  pub most : M < 2 ^ 24
  pub over : (2 * M - 1) * (2 * M - 1) * 2 ^ (2 * k) < 4 * n
  pub under : 4 * n < (2 * M + 1) * (2 * M + 1) * 2 ^ (2 * k)

pub record Laws : Type 0 where
  -- the remainder is from 0 to d - 1, and quotient × d + remainder is what was divided, above zero and below
  pub remainder-below : (z : ℤ) (d : ℕ) → 0 < d → remainder z d < d
  pub divided : (z : ℤ) (d : ℕ) → 0 < d → quotient z d *ℤ pos d +ℤ pos (remainder z d) ≡ z
  -- the root of what is finite and above zero, which is `positive` in the library, is the nearest f32 and is itself finite and above zero; `fits binary32 x` says that x is an f32
  pub nearest-root : (x : Float) → T (fits binary32 x) → T (positive x) → NearestRoot x (root x)
  pub positive_root : (x : Float) → T (fits binary32 x) → T (positive x) → T (positive (root x))
  -- exp of both zeros is 1, and exp is never below zero
  pub exp_of_zero : (s : Bool) → exp (fin s 0 (pos 0)) ≡ one
  pub exp-above : (a : Float) → lt (exp a) (from_bits binary32 0) ≡ false
  -- the last two of the thirteen terms are 0 for every remainder, so that S without them is the same number. t10 is 7 at most, and so not always 0.
  pub terms_end : (r : ℕ) → r < L → (t r 11 ≡ 0) × (t r 12 ≡ 0)
