-- Document 02, N1: "ten comma-separated fields a line (frame, id, left, top, width, height, confidence and three coordinates), with id and the last three always `-1`, each line ended by a line
-- feed. We want a reader that turns it into box records". N2: "Records read from N1's text get label 1."
use Rattle.std.specs.Prelude.{Bool, cond, List, [], ◌∷◌, ℕ, get_or, Option, Some, None, Float}
use Rattle.records.specs.declared.box_record.BoxRecord.{BoxRecord}
use Rattle.mot_number.specs.Number.{is_frame, frame_of, is_number, decimal_of, f32_of}
use Rattle.mot_fields.specs.Fields.{fields, Form, is_minus_one, body, is_line}

abbrev pub detection : List Form
detection =
    is_frame ∷ is_minus_one
    ∷ is_number ∷ is_number ∷ is_number ∷ is_number ∷ is_number
    ∷ is_minus_one ∷ is_minus_one ∷ is_minus_one ∷ []

abbrev pub is_detection : List ℕ → Bool
is_detection l = is_line detection l

-- field i, counted from 0
abbrev pub field_of : List (List ℕ) → ℕ → List ℕ
field_of fs i = get_or fs i []

abbrev pub number_at : List (List ℕ) → ℕ → Float
number_at fs i = f32_of (decimal_of (field_of fs i))

-- the box that the fields mean
abbrev pub box_in : List (List ℕ) → BoxRecord
box_in fs =
    record { frame = frame_of (field_of fs 0); left = number_at fs 2; top = number_at fs 3; width = number_at fs 4; height = number_at fs 5; score = number_at fs 6; label = 1 }

abbrev pub box_read : List ℕ → BoxRecord
box_read l = box_in (fields (body l))

-- a line, with its box where it is of the form
unfoldable pub line_of : List ℕ → Option BoxRecord
line_of l = cond (is_detection l) (Some (box_read l)) None
