-- What the private functions hand one another. No public contract cites these.
use Rattle.std.specs.Prelude.{cond, List, [], ◌∷◌, ℕ, Option, Some, None}
use Rattle.records.specs.declared.box_record.BoxRecord.{BoxRecord}
use Rattle.mot_number.specs.Number.{is_number}
use Rattle.mot_fields.specs.Fields.{Form, is_minus_one, of_forms}
use Rattle.mot_line.specs.Line.{detection, number_at, box_in}

-- the last fields of a line, from the first coordinate on and from the box on
abbrev pub coordinates : List Form
coordinates = is_minus_one ∷ is_minus_one ∷ is_minus_one ∷ []

abbrev pub box_forms : List Form
box_forms = is_number ∷ is_number ∷ is_number ∷ is_number ∷ is_number ∷ coordinates

-- a box of the first five
abbrev pub box_from : ℕ → List (List ℕ) → BoxRecord
box_from frame fs = record { frame = frame; left = number_at fs 0; top = number_at fs 1; width = number_at fs 2; height = number_at fs 3; score = number_at fs 4; label = 1 }

unfoldable pub box_fields : ℕ → List (List ℕ) → Option BoxRecord
box_fields frame fs = cond (of_forms box_forms fs) (Some (box_from frame fs)) None

unfoldable pub body_fields : List (List ℕ) → Option BoxRecord
body_fields fs = cond (of_forms detection fs) (Some (box_in fs)) None
