-- A field read from the front of what is left of a line: what it is, and where the next one starts. Laws says what that tells of all fields.
use Rattle.std.specs.Prelude.{◌≡◌, Bool, false, not, cond, ◌&&◌, List, ℕ, ◌+◌, ltb, length, take, Option, Some, None, Float}
use Rattle.mot_number.specs.Index.{index_of}
use Rattle.mot_number.specs.Number.{is_frame, frame_of, is_number, decimal_of, f32_of}
use Rattle.mot_fields.specs.Fields.{Form, is_minus_one}

-- the first field, and where the one behind it starts
abbrev pub first : List ℕ → List ℕ
first t = take (index_of 44 t) t

abbrev pub next : List ℕ → ℕ
next t = index_of 44 t + 1

-- no other follows it
abbrev pub is_last : List ℕ → Bool
is_last t = not (ltb (index_of 44 t) (length t))

-- another follows it, and these are its text and the place where that one starts
pub record IsFirst (t text : List ℕ) (start : ℕ) : Type 0 where
  pub goes_on : is_last t ≡ false
  pub text_is : text ≡ first t
  pub start_is : start ≡ next t

-- another follows it, and it is of this form
abbrev pub goes_on : Form → List ℕ → Bool
goes_on form t = ltb (index_of 44 t) (length t) && form (first t)

unfoldable pub frame_field : List ℕ → Option (ℕ × ℕ)
frame_field t = cond (goes_on is_frame t) (Some (frame_of (first t), next t)) None

unfoldable pub number_field : List ℕ → Option (Float × ℕ)
number_field t = cond (goes_on is_number t) (Some (f32_of (decimal_of (first t)), next t)) None

unfoldable pub minus_one_field : List ℕ → Option ℕ
minus_one_field t = cond (goes_on is_minus_one t) (Some (next t)) None
