-- The boxes of a frame as `update` takes them, five floats each: left, top, width, height, score; and their labels, a byte each (02, N2).
use Rattle.std.specs.Prelude.{cond, List, [], ◌∷◌, map, ℕ, ◌*◌, ◌/◌, ltb, length, set, Float}
use Rattle.laws.specs.Splice.{splice}
use Rattle.laws.specs.Laid.{rows}
use Rattle.records.specs.declared.box_record.BoxRecord.{BoxRecord}
use Rattle.records.specs.BoxRecord.{box_values}

abbrev pub box_floats : BoxRecord → List Float
box_floats r = r.left ∷ r.top ∷ r.width ∷ r.height ∷ r.score ∷ []

abbrev pub frame_floats : List BoxRecord → List Float
frame_floats rs = rows box_floats rs

abbrev pub frame_labels : List BoxRecord → List ℕ
frame_labels rs = map (λ (r : BoxRecord). r.label) rs

-- lent memory with a box stored in place k, where it has more than k whole places
unfoldable pub held_then : BoxRecord → ℕ → List Float → List Float
held_then r k l = cond (ltb k (length l / box_values)) (splice l (k * box_values) (box_floats r)) l

-- the same of its label
unfoldable pub label_then : BoxRecord → ℕ → List ℕ → List ℕ
label_then r k l = cond (ltb k (length l)) (set l k r.label) l
