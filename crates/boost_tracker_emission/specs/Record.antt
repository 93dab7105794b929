-- What boost_tracker.rs emits of a track, lines 365-382, as a track record, the label last; and the record that is written of it.
use Rattle.std.specs.Prelude.{◌≡◌, refl, Bool, false, cond, List, ℕ, Float}
use Rattle.std.specs.Float.{binary32}
use Rattle.std.specs.Float.Ieee.{of_bits, round, lt}
use Rattle.floats.specs.Single.{one}
use Rattle.records.specs.declared.track_record.TrackRecord.{TrackRecord}
use Rattle.records.specs.TrackRecord.{bytes_of_track}
use Rattle.strack.specs.declared.rect.Rect.{Rect}
use Rattle.strack.specs.declared.rect.Xyxy.{Xyxy}
use Rattle.strack.specs.Rect.{from_xyxy}
use Rattle.strack.specs.Strack.{get_state, get_confidence}
use Rattle.boost_tracker_table.specs.Table.{Track}

abbrev pub nine_tenths : Float
nine_tenths = of_bits binary32 0x3f66_6666

pub nine_tenths_lem : nine_tenths ≡ round binary32 false 9 10
unfolding of_bits round
nine_tenths_lem = refl

unfoldable pub record_of : ℕ → Track → ℕ → TrackRecord
record_of frame t label =
    let state : Xyxy = get_state t in
    let rect : Rect = from_xyxy state.x1 state.y1 state.x2 state.y2 in
    record {
      frame = frame;
      id = t.id;
      left = rect.left;
      top = rect.top;
      width = rect.width;
      height = rect.height;
      confidence = get_confidence t nine_tenths;
      label = label;
    }

-- ---- the record that is written: with the setting cap_confidence, "an emitted confidence above 1 is written as 1"

-- a NaN is not above 1
abbrev pub at_most_one : Float → Float
at_most_one confidence = cond (lt one confidence) one confidence

abbrev pub written : Bool → TrackRecord → TrackRecord
written cap r = record {
  frame = r.frame;
  id = r.id;
  left = r.left;
  top = r.top;
  width = r.width;
  height = r.height;
  confidence = cond cap (at_most_one r.confidence) r.confidence;
  label = r.label;
}

-- its bytes
abbrev pub record_bytes : Bool → ℕ → Track → ℕ → List ℕ
record_bytes cap frame t label = bytes_of_track (written cap (record_of frame t label))
