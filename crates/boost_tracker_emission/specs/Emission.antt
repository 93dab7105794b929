-- The tracks that a frame puts out: boost_tracker.rs, lines 363-383. A track is emitted if time since update is below 1 and (hit streak at least min_hits or frame count at most min_hits), in table order.
use Rattle.std.specs.Prelude.{◌≡◌, Bool, ◌&&◌, ◌||◌, List, [], ◌∷◌, ℕ, ltb, leb, length, get_or, Float}
use Rattle.std.specs.Float.{binary32}
use Rattle.std.specs.Float.Ieee.{of_bits}
use Rattle.laws.specs.Tab.{indices}
use Rattle.laws.specs.Sieve.{sieve}
use Rattle.laws.specs.Laid.{laid}
use Rattle.labels.specs.Label.{label_at}
use Rattle.records.specs.declared.track_record.TrackRecord.{TrackRecord}
use Rattle.records.specs.TrackRecord.{track_bytes}
use Rattle.boost_tracker_table.specs.Table.{Track, blank}
use Rattle.boost_tracker_emission.specs.Record.{record_of, record_bytes}

abbrev pub emits : ℕ → ℕ → Track → Bool
emits frame hits t = ltb t.since 1 && (leb hits t.streak || leb frame hits)

abbrev pub emitted : ℕ → ℕ → List Track → List Track
emitted frame hits ts = sieve (emits frame hits) ts

-- their places in the table
abbrev pub emitted_inds : ℕ → ℕ → List Track → List ℕ
emitted_inds frame hits ts = sieve (λ i. emits frame hits (get_or ts i blank)) (indices (length ts))

-- the record of the track and the label at place i, and its bytes as it is written
abbrev pub record_at : ℕ → List Track → List ℕ → ℕ → TrackRecord
record_at frame ts labels i = record_of frame (get_or ts i blank) (label_at labels i)

abbrev pub bytes_at : Bool → ℕ → List Track → List ℕ → ℕ → List ℕ
bytes_at cap frame ts labels i = record_bytes cap frame (get_or ts i blank) (label_at labels i)

-- the confidences that a frame can put out: time since update is 0 then, so that the age decides, 0 to 6 and from 7 on. None is a NaN, and the last one alone is above 1.
-- `emitted-confidence` of proofs/ConfidenceLaws.antt says that it is one of these.
abbrev pub emitted_confidences : List Float
emitted_confidences =
    of_bits binary32 0x3ef4_e351 ∷ of_bits binary32 0x3f08_0c83 ∷ of_bits binary32 0x3f17_2a59 ∷ of_bits binary32 0x3f27_f62a ∷ of_bits binary32 0x3f3a_9fbd ∷ of_bits binary32 0x3f4f_5c28 ∷ of_bits binary32 0x3f66_6666
    ∷ of_bits binary32 0x3f8e_38e4 ∷ []

-- their records, as they are written, lie over the front of out₀, n of them
pub record Emitted (ts : List Track) (labels : List ℕ) (frame hits : ℕ) (cap : Bool) (out₀ out : List ℕ) (n : ℕ) : Type 0 where
  pub count : n ≡ length (emitted frame hits ts)
  pub bytes : out ≡ laid (bytes_at cap frame ts labels) track_bytes (emitted_inds frame hits ts) out₀
