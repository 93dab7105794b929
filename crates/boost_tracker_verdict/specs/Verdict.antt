-- Document 01, "When a call is turned down", Frame: 11 table not sound; 12 a float of a held track not finite, or a predicted A + R not positive and finite; 13 a float setting not finite;
-- 14 more than 255 boxes; 15 held tracks plus boxes above the capacity; 16 a box with a value not finite, width or height not above 0, left, top, width or height beyond 65536 in magnitude,
-- or score outside 0 to 1; 17 frame count 2147483647 or more; 18 output lent for fewer than held plus boxes records; 19 work slices below n × n f64 or 4 × n × n f32, n the larger of held and boxes.
-- Document 02, N2: 10 a label other than 1 to 3 of a held track, after 11 and before 12; 20 such a label in a box, with the lowest such index, after 16 and before 17.
-- The first that applies in the order 11, 10, 12 to 16, 20, 17, 18, 19 is said. A box is `box_values` floats of a slice, a record `track_bytes` bytes, and a rest is not looked at.
use Rattle.std.specs.Prelude.{Bool, cond, not, ◌&&◌, ◌||◌, List, [], ◌∷◌, ℕ, ◌+◌, ◌*◌, ◌/◌, max, leb, ltb, length, get_or, Float, ⊤, Result, Ok, Err}
use Rattle.std.specs.Float.{nan}
use Rattle.std.specs.Float.Ieee.Scale.{finite}
use Rattle.laws.specs.Scan.{lowest}
use Rattle.laws.specs.Every.{every}
use Rattle.box_verdict.specs.Box.{bad_box}
use Rattle.strack_filter.specs.KalmanFilter.{updatable}
use Rattle.strack.specs.Strack.{predict}
use Rattle.labels.specs.Label.{unlabelled_at, unlabelled}
use Rattle.records.specs.TrackRecord.{track_bytes}
use Rattle.records.specs.BoxRecord.{box_values}
use Rattle.boost_tracker_verdict.specs.declared.refusal.Refusal.{Refusal}
use Rattle.boost_tracker_verdict.specs.declared.refusal.Refusal.TheVariants.{TableNotSound, TrackNotLabelled, TrackNotWorkable, SettingNotFinite, TooManyBoxes, TableFull, BadBox, BoxNotLabelled, TooManyFrames, OutputShort, WorkShort}
use Rattle.boost_tracker_settings.specs.declared.settings.Settings.{Settings}
use Rattle.boost_tracker_verdict.specs.declared.sound.State.{State}
use Rattle.boost_tracker_table.specs.Table.{Track, floats_of}
use Rattle.boost_tracker_table.specs.Lent.{Table, places_of, tracks_in}
use Rattle.boost_tracker_verdict.specs.Boxes.{Boxes}
use Rattle.boost_tracker_verdict.specs.Sound.{sound_table}

-- ---- the numbers

abbrev pub number : Refusal → ℕ
number TableNotSound = 11
number TrackNotLabelled = 10
number TrackNotWorkable = 12
number SettingNotFinite = 13
number TooManyBoxes = 14
number TableFull = 15
number (BadBox i) = 16
number (BoxNotLabelled i) = 20
number TooManyFrames = 17
number OutputShort = 18
number WorkShort = 19

-- what goes along: with 16 and 20 the index of the box
abbrev pub index : Refusal → ℕ
index TableNotSound = 0
index TrackNotLabelled = 0
index TrackNotWorkable = 0
index SettingNotFinite = 0
index TooManyBoxes = 0
index TableFull = 0
index (BadBox i) = i
index (BoxNotLabelled i) = i
index TooManyFrames = 0
index OutputShort = 0
index WorkShort = 0

-- both of a verdict, 0 where it accepts
abbrev pub answer : Result ⊤ Refusal → ℕ × ℕ
answer (Ok _) = (0, 0)
answer (Err why) = (number why, index why)

-- what an accepted frame gives, or what there is of a refused one
abbrev pub where_accepted : {A : Type 0} → Result ⊤ Refusal → A → A → A
where_accepted (Ok _) done before = done
where_accepted (Err why) done before = before

-- ---- 12: `updatable` says of the four pairs with R = 1, 1, 10, 0.01 that A + R is positive and finite, which is when a correction is accepted

unfoldable pub workable : Track → Bool
workable t = every finite (floats_of t) && updatable (predict t).kf

-- ---- 13

abbrev pub setting_floats : Settings → List Float
setting_floats s = s.det_thresh ∷ s.iou_threshold ∷ s.lambda_iou ∷ s.lambda_mhd ∷ s.lambda_shape ∷ s.dlo_boost_coef ∷ []

-- ---- 16: `bad_box` says it of one box

unfoldable pub bad_box_at : List Float → ℕ → Bool
bad_box_at b i = bad_box (get_or b (i * box_values) nan) (get_or b (i * box_values + 1) nan) (get_or b (i * box_values + 2) nan) (get_or b (i * box_values + 3) nan) (get_or b (i * box_values + 4) nan)

-- ---- the verdict

abbrev pub boxes_in : List Float → ℕ
boxes_in values = length values / box_values

unfoldable pub of_table : Settings → State → Table → Result ⊤ Refusal
of_table s state t =
    cond (not (sound_table state t)) (Err TableNotSound)
    (cond (unlabelled t.labels state.count) (Err TrackNotLabelled)
    (cond (not (every workable (tracks_in t state.count))) (Err TrackNotWorkable)
    (cond (not (every finite (setting_floats s))) (Err SettingNotFinite)
    (Ok tt))))

unfoldable pub of_boxes : ℕ → ℕ → Boxes → Result ⊤ Refusal
of_boxes held places boxes =
    let n = boxes_in boxes.values in
    cond (ltb 255 n) (Err TooManyBoxes)
    (cond (ltb places (held + n)) (Err TableFull)
    (cond (ltb (lowest (bad_box_at boxes.values) n) n) (Err (BadBox (lowest (bad_box_at boxes.values) n)))
    (cond (unlabelled boxes.labels n) (Err (BoxNotLabelled (lowest (unlabelled_at boxes.labels) n)))
    (Ok tt))))

unfoldable pub of_room : ℕ → ℕ → ℕ → ℕ → ℕ → ℕ → Result ⊤ Refusal
of_room held n frames out work64 work32 =
    let side = max held n in
    cond (leb 2147483647 frames) (Err TooManyFrames)
    (cond (ltb (out / track_bytes) (held + n)) (Err OutputShort)
    (cond (ltb work64 (side * side) || ltb work32 (4 * (side * side))) (Err WorkShort)
    (Ok tt)))

abbrev pub or_else : Result ⊤ Refusal → Result ⊤ Refusal → Result ⊤ Refusal
or_else (Ok _) later = later
or_else (Err why) later = Err why

unfoldable pub verdict : Settings → State → Table → Boxes → ℕ → ℕ → ℕ → Result ⊤ Refusal
verdict s state t boxes out work64 work32 =
    or_else (of_table s state t)
    (or_else (of_boxes state.count (places_of t) boxes)
    (of_room state.count (boxes_in boxes.values) state.frames out work64 work32))
