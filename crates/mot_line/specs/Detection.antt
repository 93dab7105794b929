-- How a line is written: document 02, N1, field by field. A number is a Numeral of mot_number, and a frame number one to six digits.
use Rattle.std.specs.Prelude.{List, [], ◌∷◌, ◌++◌, ℕ, ◌≤◌, length, Float}
use Rattle.records.specs.declared.box_record.BoxRecord.{BoxRecord}
use Rattle.mot_number.specs.Number.{f32_of}
use Rattle.mot_number.specs.Numeral.{AreDigits, Numeral, in_bytes, text_of, digits_behind, value_of}

pub record Detection : Type 0 where
  pub frame : List ℕ
  pub frame-digits : AreDigits frame
  pub frame-some : 1 ≤ length frame
  pub frame-most : length frame ≤ 6
  pub left : Numeral
  pub top : Numeral
  pub width : Numeral
  pub height : Numeral
  pub score : Numeral

-- ---- its text

-- a field, the comma and the rest
abbrev pub then : List ℕ → List ℕ → List ℕ
then field rest = field ++ (44 ∷ rest)

-- `-1`
abbrev pub minus_one : List ℕ
minus_one = 45 ∷ 49 ∷ []

abbrev pub line_text : Detection → List ℕ
line_text d =
    (then (in_bytes d.frame)
    (then minus_one
    (then (text_of d.left)
    (then (text_of d.top)
    (then (text_of d.width)
    (then (text_of d.height)
    (then (text_of d.score)
    (then minus_one
    (then minus_one
    minus_one))))))))) ++ (10 ∷ [])

-- no line is longer: a frame number of six digits, five numbers of 14 bytes, four `-1`, nine commas and the line feed
abbrev pub longest_line : ℕ
longest_line = 94

-- ---- the box that it means

abbrev pub nearest_to : Numeral → Float
nearest_to n = f32_of (value_of n)

abbrev pub box_written : Detection → BoxRecord
box_written d =
    record { frame = digits_behind 0 d.frame; left = nearest_to d.left; top = nearest_to d.top; width = nearest_to d.width; height = nearest_to d.height; score = nearest_to d.score; label = 1 }
