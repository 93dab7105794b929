-- Document 01: "A box record is 24 bytes, little-endian: frame u32, then left, top, width, height, score as f32." 02, N2: "A box and a track carry a label .. in one byte beside the old fields.
-- .. Box records become 25 bytes and track records 33, the label last". Any byte is read; which are labels the frame decides.
use Rattle.std.specs.Prelude.{◌≡◌, refl, cond, List, ◌++◌, ℕ, ◌*◌, ◌/◌, ltb, length, Option, Some, None}
use Rattle.records.specs.declared.box_record.BoxRecord.{BoxRecord}
use Rattle.records.specs.Field.{little_endian, value, five, part, float_at}
use Rattle.records.specs.Written.{WritesRecord}

abbrev pub box_bytes : ℕ
box_bytes = 25

-- left, top, width, height, score: the floats of a box in a frame's slice
abbrev pub box_values : ℕ
box_values = 5

abbrev pub bytes_of_box : BoxRecord → List ℕ
bytes_of_box r = little_endian 4 r.frame ++ (five r.left r.top r.width r.height r.score ++ little_endian 1 r.label)

abbrev pub box_of : List ℕ → BoxRecord
box_of l =
    record { frame = value (part 0 4 l); left = float_at 4 l; top = float_at 8 l; width = float_at 12 l; height = float_at 16 l; score = float_at 20 l; label = value (part 24 1 l) }

pub length-box : (r : BoxRecord) → length (bytes_of_box r) ≡ box_bytes
unfolding little_endian
length-box r = refl

-- record k of a slice, where it has more than k whole ones
unfoldable pub box_at : List ℕ → ℕ → Option BoxRecord
box_at l k = cond (ltb k (length l / box_bytes)) (Some (box_of (part (k * box_bytes) box_bytes l))) None

abbrev pub WritesBox : BoxRecord → ℕ → List ℕ → Option ℕ → List ℕ → Type 0
WritesBox r k out w out' = WritesRecord box_bytes k (bytes_of_box r) out w out'
