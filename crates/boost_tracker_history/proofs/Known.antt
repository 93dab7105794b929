-- Two histories, computed by the definitions: a table of one place, and max_age 0. The box 10, 20, 32, 64 with score 0.75 starts track 1; a frame without boxes retires it, in the other history a drop; the same box then starts track 2.
use Rattle.std.specs.Prelude.{◌≡◌, refl, [], ◌∷◌, replicate}
use Rattle.std.specs.Float.{nan}
use Rattle.std.specs.Float.Ieee.{of_bits, add, sub, mul, div, lt, le}
use Rattle.std.proofs.Common.{Ok}
use Rattle.floats.specs.Known.{f32}
use Rattle.laws.specs.Tab.{tab}
use Rattle.laws.specs.Laid.{rows}
use Rattle.laws.specs.Sieve.{sieve}
use Rattle.laws.specs.Scan.{scan}
use Rattle.laws.specs.Every.{every}
use Rattle.laws.specs.Elem.{elem}
use Rattle.labels.specs.Label.{is_label}
use Rattle.box_verdict.specs.Box.{beyond, bad_box}
use Rattle.records.specs.TrackRecord.{track_bytes}
use Rattle.strack.specs.Rect.{width_of}
use Rattle.strack_filter.specs.KalmanFilter.{updatable}
use Rattle.strack.specs.Strack.{new as new_track, predict}
use Rattle.assoc.specs.Association.{associate_by}
use Rattle.boost_tracker_duo.specs.Duo.{duo_confidence_boost}
use Rattle.boost_tracker_dlo.specs.Dlo.{dlo_confidence_boost}
use Rattle.boost_tracker_settings.specs.declared.settings.Settings.{Settings}
use Rattle.boost_tracker_settings.specs.Settings.{new}
use Rattle.boost_tracker_table.specs.Table.{place_floats, place_counters, tracks, track_at, filled_up, labels_where, zero_filled}
use Rattle.boost_tracker_table.specs.Lent.{table_with}
use Rattle.boost_tracker_verdict.specs.Boxes.{Boxes, boxes_with}
use Rattle.boost_tracker_verdict.specs.Sound.{rising, sound}
use Rattle.boost_tracker_verdict.specs.Verdict.{workable, bad_box_at, of_table, of_boxes, of_room, verdict}
use Rattle.boost_tracker_definition.specs.Update.{scores, dlo, after_dlo, duo, after_duo, remain_inds, det_bboxes, det_scores, det_labels, result, matched, started, stages_from, steps, update_by, labels_started}
use Rattle.boost_tracker_forget.specs.Forget.{twice, first_of, verdict as forgetting, Accepts}
use Rattle.trackbox_feed.specs.Trackbox.{Tracker}
use Rattle.boost_tracker_history.specs.History.{fresh, Frame, answered, leaves, dropping, frame, forgets, held, History, empty, then, given, retired}

abbrev settings : Settings
settings = new (f32 0x3f19_999a) (f32 0x3e99_999a) 0 3

abbrev frame_of : Boxes → Frame
frame_of boxes = record { settings = settings; boxes = boxes; output = track_bytes; work64 = 1; work32 = 4 }

abbrev box : Frame
box = frame_of (boxes_with (f32 0x4120_0000 ∷ f32 0x41a0_0000 ∷ f32 0x4200_0000 ∷ f32 0x4280_0000 ∷ f32 0x3f40_0000 ∷ []) (1 ∷ []))

abbrev none : Frame
none = frame_of (boxes_with [] [])

-- whatever is in the table
abbrev t₀ : Tracker
t₀ = fresh (table_with (replicate place_floats nan) (replicate place_counters 9) (9 ∷ []))

abbrev t₁ : Tracker
t₁ = leaves t₀ box

abbrev t₂ : Tracker
t₂ = leaves t₁ none

abbrev t₃ : Tracker
t₃ = leaves t₂ box

-- track 1 dropped instead
abbrev u₂ : Tracker
u₂ = dropping t₁ (1 ∷ [])

abbrev u₃ : Tracker
u₃ = leaves u₂ box

-- what is held after each, by the frame's stages
pub held_after : (held t₁ ≡ 1 ∷ []) × (held t₂ ≡ []) × (held t₃ ≡ 2 ∷ []) × (held u₂ ≡ []) × (held u₃ ≡ 2 ∷ [])
unfolding tracks track_at filled_up labels_where zero_filled update_by steps stages_from scores after_dlo dlo dlo_confidence_boost after_duo duo duo_confidence_boost remain_inds det_scores labels_started result associate_by matched started tab rows sieve elem new_track predict of_bits le
held_after = (refl, refl, refl, refl, refl)

pub accepted : (answered t₀ box ≡ Ok tt) × (answered t₁ none ≡ Ok tt) × (answered t₂ box ≡ Ok tt)
unfolding held_after verdict of_table of_boxes of_room sound rising every workable updatable bad_box_at bad_box beyond scan is_label det_bboxes det_labels width_of add sub mul div lt
accepted = (refl, refl, refl)

abbrev three : History t₃
three = then (then (then (empty t₀.table) (frame box accepted.0)) (frame none accepted.1)) (frame box accepted.2)

pub known : (given three ≡ 1 ∷ 2 ∷ []) × (retired three ≡ 1 ∷ [])
unfolding held_after given retired
known = (refl, refl)

pub drop-accepted : Accepts t₁.state t₁.table (1 ∷ []) × (answered u₂ box ≡ Ok tt)
unfolding accepted forgetting first_of twice
drop-accepted = (refl, refl)

abbrev cleared : History u₃
cleared = then (then (then (empty t₀.table) (frame box accepted.0)) (forgets (1 ∷ []) drop-accepted.0)) (frame box drop-accepted.1)

pub known-drop : (given cleared ≡ 1 ∷ 2 ∷ []) × (retired cleared ≡ 1 ∷ [])
unfolding known
known-drop = (refl, refl)
