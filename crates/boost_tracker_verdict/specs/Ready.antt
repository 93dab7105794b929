-- What an accepted frame knows: `Ready`, which the frame's work stands on. `ready` of proofs/ReadyLaws.antt says that it follows from the verdict.
use Rattle.std.specs.Prelude.{◌≡◌, true, false, ℕ, ◌+◌, ◌*◌, ◌≤◌, ◌<◌, max, length, get_or}
use Rattle.std.specs.Float.Ieee.Scale.{finite}
use Rattle.laws.specs.Every.{every}
use Rattle.strack_filter.specs.KalmanFilter.{updatable}
use Rattle.strack.specs.Strack.{predict}
use Rattle.labels.specs.Label.{is_label, label_at}
use Rattle.records.specs.TrackRecord.{track_bytes}
use Rattle.records.specs.BoxRecord.{box_values}
use Rattle.boost_tracker_settings.specs.declared.settings.Settings.{Settings}
use Rattle.boost_tracker_table.specs.Table.{Track, floats_of, blank, capacity, Room}
use Rattle.boost_tracker_table.specs.Lent.{Table, places_of, tracks_in}
use Rattle.boost_tracker_verdict.specs.declared.sound.State.{State}
use Rattle.boost_tracker_verdict.specs.Boxes.{Boxes}
use Rattle.boost_tracker_verdict.specs.Sound.{rising}
use Rattle.boost_tracker_verdict.specs.Verdict.{setting_floats, bad_box_at, boxes_in}

-- a track of an accepted frame: its counters are in range, its floats are finite, and once predicted it can be corrected
pub record HeldTrack (state : State) (t : Track) : Type 0 where
  pub id_low : t.id ≤ state.last
  pub since_low : t.since ≤ state.frames
  pub streak_low : t.streak ≤ state.frames
  pub age_low : t.age ≤ state.frames
  pub finite_floats : every finite (floats_of t) ≡ true
  pub correctable : updatable (predict t).kf ≡ true

-- the larger of held and boxes
abbrev pub side : State → Boxes → ℕ
side state boxes = max state.count (boxes_in boxes.values)

pub record Ready (s : Settings) (state : State) (t : Table) (boxes : Boxes) (out work64 work32 : ℕ) : Type 0 where
  -- sizes
  pub room : Room (length t.floats) (length t.counters) (capacity (length t.floats) (length t.counters))
  pub held : state.count ≤ places_of t
  pub boxes-low : boxes_in boxes.values ≤ 255
  pub boxes-in : boxes_in boxes.values * box_values ≤ length boxes.values
  pub space : state.count + boxes_in boxes.values ≤ places_of t
  pub output : (state.count + boxes_in boxes.values) * track_bytes ≤ out
  pub doubles : side state boxes * side state boxes ≤ work64
  pub singles : 4 * (side state boxes * side state boxes) ≤ work32
  -- counts
  pub frames-low : state.frames < 2147483647
  pub ids-low : state.last ≤ 255 * state.frames
  -- tracks, settings and boxes
  pub many : length (tracks_in t state.count) ≡ state.count
  pub ids_rise : rising 0 (tracks_in t state.count) ≡ true
  pub each : (i : ℕ) → i < state.count → HeldTrack state (get_or (tracks_in t state.count) i blank)
  pub settings_finite : every finite (setting_floats s) ≡ true
  pub good : (i : ℕ) → i < boxes_in boxes.values → bad_box_at boxes.values i ≡ false
  -- labels
  pub labels-good : (j : ℕ) → j < state.count → is_label (label_at t.labels j) ≡ true
  pub box-labels-good : (i : ℕ) → i < boxes_in boxes.values → is_label (label_at boxes.labels i) ≡ true
