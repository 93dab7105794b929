-- Examples that the definitions compute: document 01's record of a first track, and confidences as they are written.
use Rattle.std.specs.Prelude.{◌≡◌, refl, Bool, true, false, List, [], ◌∷◌, map, ℕ}
use Rattle.std.specs.Float.Ieee.{of_bits, to_bits, add, sub, mul, div, lt, le}
use Rattle.floats.specs.Known.{f32, bits}
use Rattle.floats.specs.Power.{powi}
use Rattle.records.specs.Known.{lone_track}
use Rattle.strack.specs.declared.rect.Xyxy.{Xyxy}
use Rattle.strack.specs.Rect.{width_of}
use Rattle.strack.specs.Strack.{new as new_track, get_state, confidence}
use Rattle.boost_tracker_table.specs.Table.{Track}
use Rattle.boost_tracker_emission.specs.Record.{record_of, at_most_one, written}

-- ---- a record: the track of the box 10, 20, 32, 64 alone in frame 1 is the one that document 01 prints

abbrev corners : Xyxy
corners = record { x1 = f32 0x4120_0000; y1 = f32 0x41a0_0000; x2 = f32 0x4228_0000; y2 = f32 0x42a8_0000 }

abbrev first_track : Track
first_track = new_track corners 1

pub first-record : record_of 1 first_track 1 ≡ lone_track
unfolding record_of new_track get_state width_of confidence powi of_bits add sub mul div le
first-record = refl

-- ---- confidences: of a track that has a box in the frame, at the ages 0 to 8, as in the Rust and with cap_confidence

abbrev seen : ℕ → Track
seen age = record { kf = first_track.kf; id = 1; since = 0; streak = 3; age = age }

abbrev confidence_at : Bool → ℕ → ℕ
confidence_at cap age = bits (written cap (record_of 9 (seen age) 1)).confidence

abbrev ages : List ℕ
ages = 0 ∷ 1 ∷ 2 ∷ 3 ∷ 4 ∷ 5 ∷ 6 ∷ 7 ∷ 8 ∷ []

pub confidences : (map (confidence_at false) ages ≡ 0x3ef4_e351 ∷ 0x3f08_0c83 ∷ 0x3f17_2a59 ∷ 0x3f27_f62a ∷ 0x3f3a_9fbd ∷ 0x3f4f_5c28 ∷ 0x3f66_6666 ∷ 0x3f8e_38e4 ∷ 0x3f8e_38e4 ∷ [])
    × (map (confidence_at true) ages ≡ 0x3ef4_e351 ∷ 0x3f08_0c83 ∷ 0x3f17_2a59 ∷ 0x3f27_f62a ∷ 0x3f3a_9fbd ∷ 0x3f4f_5c28 ∷ 0x3f66_6666 ∷ 0x3f80_0000 ∷ 0x3f80_0000 ∷ [])
unfolding record_of new_track get_state width_of confidence powi of_bits to_bits add sub mul div le lt
confidences = (refl, refl)

-- above 1 is strictly above: the floats about 1, infinity, and what is not above 1, -0 and a NaN too
pub capped : (map (λ (b : ℕ). bits (at_most_one (f32 b))) (0x3f7f_ffff ∷ 0x3f80_0000 ∷ 0x3f80_0001 ∷ 0x7f80_0000 ∷ []) ≡ 0x3f7f_ffff ∷ 0x3f80_0000 ∷ 0x3f80_0000 ∷ 0x3f80_0000 ∷ [])
    × (map (λ (b : ℕ). bits (at_most_one (f32 b))) (0x8000_0000 ∷ 0xbf80_0001 ∷ 0x7fc0_0000 ∷ []) ≡ 0x8000_0000 ∷ 0xbf80_0001 ∷ 0x7fc0_0000 ∷ [])
unfolding of_bits to_bits lt
capped = (refl, refl)
