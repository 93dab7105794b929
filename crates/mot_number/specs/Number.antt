-- Document 02, N1: "A number has an optional minus, one to six digits, and optionally a point with one to six digits"; "each decimal rounded to the nearest f32, ties to even";
-- "the frame is one to six digits alone. A minus before zero gives minus zero". A text is a list of bytes.
use Rattle.std.specs.Prelude.{Bool, not, cond, ◌&&◌, ◌||◌, List, [], ◌∷◌, ◌++◌, ℕ, ◌+◌, ◌-◌, ◌*◌, ◌^◌, eqb, leb, ltb, length, take, drop, get_or, Option, Some, None, Float}
use Rattle.std.specs.Float.{binary32}
use Rattle.std.specs.Float.Ieee.{round}
use Rattle.mot_number.specs.Index.{index_of}
use Rattle.laws.specs.Every.{every}

-- ---- the form

-- `0` is 48 and `9` is 57
abbrev pub is_digit : ℕ → Bool
is_digit b = leb 48 b && leb b 57

-- "one to six digits"
unfoldable pub one_to_six : List ℕ → Bool
one_to_six t = (leb 1 (length t) && leb (length t) 6) && every is_digit t

-- what stands before the first point, which is 46, and behind it; without one all stands before it
abbrev pub whole_of : List ℕ → List ℕ
whole_of u = take (index_of 46 u) u

abbrev pub behind_of : List ℕ → List ℕ
behind_of u = drop (index_of 46 u + 1) u

abbrev pub has_point : List ℕ → Bool
has_point u = ltb (index_of 46 u) (length u)

unfoldable pub is_unsigned : List ℕ → Bool
is_unsigned u = one_to_six (whole_of u) && (not (has_point u) || one_to_six (behind_of u))

-- a minus is 45
abbrev pub is_negative : List ℕ → Bool
is_negative t = eqb (get_or t 0 0) 45

abbrev pub unsigned_part : List ℕ → List ℕ
unsigned_part t = cond (is_negative t) (drop 1 t) t

abbrev pub is_number : List ℕ → Bool
is_number t = is_unsigned (unsigned_part t)

-- ---- the value: ± m / 10^k, exact

pub record Decimal : Type 0 where
  pub negative : Bool
  pub m : ℕ
  pub k : ℕ

-- the number v with these digits behind it
unfoldable pub with_digits : ℕ → List ℕ → ℕ
with_digits v [] = v
with_digits v (b ∷ bs) = with_digits (v * 10 + (b - 48)) bs

abbrev pub decimal_of : List ℕ → Decimal
decimal_of t = record { negative = is_negative t; m = with_digits 0 (whole_of (unsigned_part t) ++ behind_of (unsigned_part t)); k = length (behind_of (unsigned_part t)) }

-- ---- its f32: the library's `round` of a fraction, with its sign. That no f32 is nearer, and that a tie goes to the even one, is `nearest` of Laws

abbrev pub rounded : Bool → ℕ → ℕ → Float
rounded negative m k = round binary32 negative m (10 ^ k)

abbrev pub f32_of : Decimal → Float
f32_of d = rounded d.negative d.m d.k

unfoldable pub number_of : List ℕ → Option Float
number_of t = cond (is_number t) (Some (f32_of (decimal_of t))) None

-- ---- the frame

abbrev pub is_frame : List ℕ → Bool
is_frame t = one_to_six t

abbrev pub frame_of : List ℕ → ℕ
frame_of t = with_digits 0 t

unfoldable pub frame_number : List ℕ → Option ℕ
frame_number t = cond (is_frame t) (Some (frame_of t)) None
