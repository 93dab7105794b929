-- The program trackbox. Document 01, "Records and limits": it "reads box records on standard input, lends for 64 tracks and 64 boxes, uses `det_thresh` 0.6, `iou_threshold` 0.3, `max_age` 30,
-- `min_hits` 3 and otherwise `BoostTracker::new`'s settings". What it does with its records is Stream's; here is what a frame gives, by the tracker's definition.
-- Document 02, N2: its box records have a label, and it prints none.
use Rattle.std.specs.Prelude.{◌≡◌, refl, false, List, map, ℕ, ◌*◌, replicate, Float, ⊤, Result, Ok, Err}
use Rattle.std.specs.Float.{binary32}
use Rattle.std.specs.Float.Ieee.{of_bits, round}
use Rattle.floats.specs.Single.{plus_zero}
use Rattle.records.specs.declared.box_record.BoxRecord.{BoxRecord}
use Rattle.records.specs.declared.track_record.TrackRecord.{TrackRecord}
use Rattle.records.specs.BoxRecord.{box_values}
use Rattle.records.specs.TrackRecord.{track_bytes}
use Rattle.boost_tracker_verdict.specs.declared.refusal.Refusal.{Refusal}
use Rattle.boost_tracker_settings.specs.declared.settings.Settings.{Settings}
use Rattle.boost_tracker_verdict.specs.declared.sound.State.{State}
use Rattle.boost_tracker_settings.specs.Settings.{new}
use Rattle.boost_tracker_table.specs.Table.{place_floats, place_counters}
use Rattle.boost_tracker_table.specs.Lent.{Table, table_with, tracks_in, labels_in, holding}
use Rattle.boost_tracker_emission.specs.Emission.{emitted_inds, record_at}
use Rattle.boost_tracker_verdict.specs.Boxes.{Boxes, boxes_with}
use Rattle.boost_tracker_verdict.specs.Verdict.{number, verdict}
use Rattle.boost_tracker_definition.specs.Update.{Stages, update, state_after, labels_started, labels_retained}
use Rattle.trackbox_stream.specs.Boxes.{frame_floats, frame_labels}
use Rattle.trackbox_stream.specs.Stream.{Frame, refused, accepted}
use Rattle.trackbox_stream.specs.Stream as stream

-- ---- the settings, by their bits as the code has them, and what they are: the f32 nearest to each

abbrev pub det_thresh : Float
det_thresh = of_bits binary32 0x3f19_999a

abbrev pub iou_threshold : Float
iou_threshold = of_bits binary32 0x3e99_999a

pub constants : (det_thresh ≡ round binary32 false 6 10) × (iou_threshold ≡ round binary32 false 3 10)
unfolding of_bits round
constants = (refl, refl)

abbrev pub settings : Settings
settings = new det_thresh iou_threshold 30 3

-- a confidence is printed as it is, above 1 too
pub uncapped : settings.cap_confidence ≡ false
uncapped = refl

-- ---- a frame

-- the tracker between two frames: the lent table, and what stands beside it
pub record Tracker : Type 0 where
  pub state : State
  pub table : Table

abbrev pub tracker_with : State → Table → Tracker
tracker_with state table = record { state = state; table = table }

-- the definition's value, and the labels of all trackers in it
abbrev pub stages : Tracker → Boxes → Stages
stages t objects = update settings t.state objects (tracks_in t.table t.state.count) (labels_in t.table t.state.count)

abbrev pub labels_of : Tracker → Boxes → Stages → List ℕ
labels_of t objects g = labels_started objects.labels (labels_in t.table t.state.count) g

-- the records that a frame puts out, by the labels of all trackers
abbrev pub records_of : List ℕ → Stages → List TrackRecord
records_of all g = map (record_at g.frame_count g.started.trackers all) (emitted_inds g.frame_count settings.min_hits g.started.trackers)

abbrev pub frame_then : Result ⊤ Refusal → Tracker → List ℕ → Stages → Frame Tracker
frame_then (Ok _) t all g = accepted (tracker_with (state_after g) (holding g.retained (labels_retained settings all g) t.table)) (records_of all g)
frame_then (Err why) t all g = refused (number why)

-- of so many bytes lent for the output, and so many f64 and f32 for work
unfoldable pub frame : ℕ → ℕ → ℕ → Tracker → Boxes → Frame Tracker
frame out work64 work32 t objects =
    let g : Stages = stages t objects in
    frame_then (verdict settings t.state t.table objects out work64 work32) t (labels_of t objects g) g

-- ---- the program

-- what is lent: for 64 tracks and 64 boxes
abbrev pub lent_floats : ℕ
lent_floats = 64 * place_floats

abbrev pub lent_counters : ℕ
lent_counters = 64 * place_counters

-- a byte a track
abbrev pub lent_labels : ℕ
lent_labels = 64

abbrev pub lent_boxes : ℕ
lent_boxes = 64 * box_values

-- a byte a box
abbrev pub lent_box_labels : ℕ
lent_box_labels = 64

abbrev pub lent_output : ℕ
lent_output = 64 * track_bytes

-- n × n f64 and 4 × n × n f32, n the larger of both
abbrev pub lent_doubles : ℕ
lent_doubles = 64 * 64

abbrev pub lent_singles : ℕ
lent_singles = 4 * lent_doubles

-- a table that is all zero
abbrev pub begin : Tracker
begin = tracker_with (record { count = 0; last = 0; frames = 0 }) (table_with (replicate lent_floats plus_zero) (replicate lent_counters 0) (replicate lent_labels 0))

abbrev pub frame_boxes : List BoxRecord → Boxes
frame_boxes rs = boxes_with (frame_floats rs) (frame_labels rs)

abbrev pub updated : Tracker → List BoxRecord → Frame Tracker
updated t rs = frame lent_output lent_doubles lent_singles t (frame_boxes rs)

-- the bytes that are printed for the bytes that are read
unfoldable pub trackbox : List ℕ → List ℕ
trackbox bytes = stream.trackbox updated begin bytes
