-- What `motbox` makes of its input: document 02, N1, line by line. A line that is turned away ends it, with the refusal's number and the line's, counted from 1.
use Rattle.std.specs.Prelude.{Bool, cond, List, [], ◌∷◌, ◌++◌, ℕ, ◌+◌, min, eqb, ltb, length, replicate, Result, Ok, Err}
use Rattle.mot_number.specs.Index.{index_of}
use Rattle.records.specs.BoxRecord.{box_bytes}
use Rattle.mot_fields.specs.Fields.{onto_first}
use Rattle.mot_line.specs.declared.call.Refusal.{Refusal}
use Rattle.mot_line.specs.Call.{number, mot_line}

-- ---- lines

-- a line feed is 10
abbrev pub has_line : List ℕ → Bool
has_line t = ltb (index_of 10 t) (length t)

-- the first line with its line feed; without one it is all that is there
abbrev pub line_length : List ℕ → ℕ
line_length t = cond (has_line t) (index_of 10 t + 1) (length t)

-- each with its line feed; what stands behind the last one is a line too
unfoldable pub lines_of : List ℕ → List (List ℕ)
lines_of [] = []
lines_of (b ∷ bs) = cond (eqb b 10) ((b ∷ []) ∷ lines_of bs) (onto_first b (lines_of bs))

-- ---- records

pub record Converted : Type 0 where
  pub records : List ℕ
  -- why a line was turned away, or 0
  pub refusal : ℕ
  -- that line's number, or how many lines there are
  pub line : ℕ

abbrev pub converting : List ℕ → ℕ → ℕ → Converted
converting records refusal line = record { records = records; refusal = refusal; line = line }

abbrev pub behind : List ℕ → Converted → Converted
behind records c = converting (records ++ c.records) c.refusal c.line

-- the number of the line behind so many, as a u64 counts it
abbrev pub later : ℕ → ℕ
later n = min n 18446744073709551614 + 1

-- `out` is the line's record, which mot_line wrote over `blank`; `rest` is what the lines behind it give, by its frame
abbrev pub on_answer : Result ℕ Refusal → List ℕ → ℕ → (ℕ → Converted) → Converted
on_answer (Ok frame) out lines rest = behind out (rest frame)
on_answer (Err why) out lines rest = converting [] (number why) (later lines)

abbrev pub blank : List ℕ
blank = replicate box_bytes 0

-- the lines behind so many others, the last of which had this frame
unfoldable pub converted : ℕ → ℕ → List (List ℕ) → Converted
converted previous lines [] = converting [] 0 lines
converted previous lines (l ∷ ls) = on_answer (mot_line l previous blank).answer (mot_line l previous blank).out lines (λ frame. converted frame (later lines) ls)

-- all of the input
abbrev pub motbox : List ℕ → Converted
motbox text = converted 0 0 (lines_of text)
