-- Document 01: "A track record is 32 bytes: frame u32, id u64, left, top, width, height, confidence as f32." 02, N2: "track records 33, the label last". Little-endian, as a box record.
use Rattle.std.specs.Prelude.{◌≡◌, refl, cond, List, ◌++◌, ℕ, ◌*◌, ◌/◌, ltb, length, Option, Some, None}
use Rattle.records.specs.declared.track_record.TrackRecord.{TrackRecord}
use Rattle.records.specs.Field.{little_endian, value, five, part, float_at}
use Rattle.records.specs.Written.{WritesRecord}

abbrev pub track_bytes : ℕ
track_bytes = 33

abbrev pub bytes_of_track : TrackRecord → List ℕ
bytes_of_track t = little_endian 4 t.frame ++ (little_endian 8 t.id ++ (five t.left t.top t.width t.height t.confidence ++ little_endian 1 t.label))

abbrev pub track_of : List ℕ → TrackRecord
track_of l =
    record { frame = value (part 0 4 l); id = value (part 4 8 l); left = float_at 12 l; top = float_at 16 l; width = float_at 20 l; height = float_at 24 l; confidence = float_at 28 l; label = value (part 32 1 l) }

pub length-track : (t : TrackRecord) → length (bytes_of_track t) ≡ track_bytes
unfolding little_endian
length-track t = refl

-- record k of a slice, where it has more than k whole ones
unfoldable pub track_at : List ℕ → ℕ → Option TrackRecord
track_at l k = cond (ltb k (length l / track_bytes)) (Some (track_of (part (k * track_bytes) track_bytes l))) None

abbrev pub WritesTrack : TrackRecord → ℕ → List ℕ → Option ℕ → List ℕ → Type 0
WritesTrack t k out w out' = WritesRecord track_bytes k (bytes_of_track t) out w out'
