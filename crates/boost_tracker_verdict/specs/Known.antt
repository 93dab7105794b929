-- Examples that the definitions compute: each refusal of a frame beside a frame that just passes it.
use Rattle.std.specs.Prelude.{◌≡◌, refl, List, [], ◌∷◌, ◌++◌, map, ℕ, ◌-◌, ◌*◌, replicate, Float}
use Rattle.std.specs.Float.Ieee.{of_bits, add, lt, neg}
use Rattle.floats.specs.Known.{f32}
use Rattle.laws.specs.Tab.{tab}
use Rattle.laws.specs.Scan.{scan}
use Rattle.laws.specs.Every.{every}
use Rattle.labels.specs.Label.{is_label}
use Rattle.box_verdict.specs.Box.{beyond, bad_box}
use Rattle.records.specs.BoxRecord.{box_values}
use Rattle.records.specs.TrackRecord.{track_bytes}
use Rattle.strack_filter.specs.KalmanFilter.{updatable}
use Rattle.strack.specs.Strack.{predict}
use Rattle.boost_tracker_settings.specs.declared.settings.Settings.{Settings}
use Rattle.boost_tracker_settings.specs.Settings.{new}
use Rattle.boost_tracker_table.specs.Table.{place_floats, place_counters, track_at, tracks}
use Rattle.boost_tracker_table.specs.Lent.{Table, table_with}
use Rattle.boost_tracker_verdict.specs.declared.sound.State.{State}
use Rattle.boost_tracker_verdict.specs.Boxes.{Boxes, boxes_with}
use Rattle.boost_tracker_verdict.specs.Sound.{rising, sound}
use Rattle.boost_tracker_verdict.specs.Verdict.{answer, workable, bad_box_at, of_table, of_boxes, of_room, verdict}

-- trackbox's settings; the table has two places
abbrev settings : Settings
settings = new (f32 0x3f19_999a) (f32 0x3e99_999a) 30 3

abbrev not_finite : Settings
not_finite = new (f32 0x7f80_0000) (f32 0x3e99_999a) 30 3

abbrev state : ℕ → ℕ → ℕ → State
state count last frames = record { count = count; last = last; frames = frames }

abbrev empty : List Float
empty = replicate (2 * place_floats) (f32 0)

abbrev no_counters : List ℕ
no_counters = replicate (2 * place_counters) 0

-- the first place holds a track with this id, these counters and the given first float and A of its first pair
abbrev held : ℕ → ℕ → List ℕ
held id counter = id ∷ counter ∷ counter ∷ counter ∷ replicate place_counters 0

abbrev tracked : ℕ → ℕ → List Float
tracked p a = f32 p ∷ f32 0 ∷ f32 a ∷ replicate (2 * place_floats - 3) (f32 0)

abbrev box : ℕ → ℕ → ℕ → List Float
box left width score = f32 left ∷ f32 0x41a0_0000 ∷ f32 width ∷ f32 0x4280_0000 ∷ f32 score ∷ []

abbrev good : List Float
good = box 0x4120_0000 0x4200_0000 0x3f40_0000

-- label 1 for each place and each box
abbrev table : List Float → List ℕ → Table
table f c = table_with f c (1 ∷ 1 ∷ [])

abbrev objects : List Float → Boxes
objects values = boxes_with values (1 ∷ 1 ∷ [])

abbrev one : Settings → State → List Float → List ℕ → List Float → ℕ × ℕ
one s st f c boxes = answer (verdict s st (table f c) (objects boxes) (2 * track_bytes) 4 16)

-- a held track and a box, with these labels of the table and of the boxes
abbrev labelled : List ℕ → List ℕ → ℕ × ℕ
labelled labels box_labels = answer (verdict settings (state 1 1 1) (table_with empty (held 1 1) labels) (boxes_with good box_labels) (2 * track_bytes) 4 16)

abbrev pub rows : List ((ℕ × ℕ) × (ℕ × ℕ))
rows =
    -- a good box into an empty table
    (one settings (state 0 0 0) empty no_counters good, (0, 0))
    -- 11: more tracks than places; an id of 0, above the last, or twice; a counter above the frames; more than 255 ids a frame
    ∷ (one settings (state 3 3 1) empty no_counters good, (11, 0))
    ∷ (one settings (state 1 1 1) empty (held 1 1) good, (0, 0))
    ∷ (one settings (state 1 1 1) empty (held 0 1) good, (11, 0))
    ∷ (one settings (state 1 1 1) empty (held 2 1) good, (11, 0))
    ∷ (one settings (state 1 1 1) empty (held 1 2) good, (11, 0))
    ∷ (one settings (state 2 9 1) empty (7 ∷ 0 ∷ 0 ∷ 0 ∷ 7 ∷ 0 ∷ 0 ∷ 0 ∷ []) [], (11, 0))
    ∷ (one settings (state 2 9 1) empty (7 ∷ 0 ∷ 0 ∷ 0 ∷ 8 ∷ 0 ∷ 0 ∷ 0 ∷ []) [], (0, 0))
    ∷ (one settings (state 0 256 1) empty no_counters good, (11, 0))
    ∷ (one settings (state 0 255 1) empty no_counters good, (0, 0))
    -- 12: a float that is not finite; A of -3, which predicted and with R = 1 is -1
    ∷ (one settings (state 1 1 1) (tracked 0x7fc0_0000 0) (held 1 1) good, (12, 0))
    ∷ (one settings (state 1 1 1) (tracked 0 0xc040_0000) (held 1 1) good, (12, 0))
    ∷ (one settings (state 1 1 1) (tracked 0 0xbf80_0000) (held 1 1) good, (0, 0))
    -- 13
    ∷ (one not_finite (state 0 0 0) empty no_counters good, (13, 0))
    -- 14: 256 boxes
    ∷ (one settings (state 0 0 0) empty no_counters (replicate (256 * box_values) (f32 0)), (14, 0))
    -- 15: one held, two boxes, two places
    ∷ (one settings (state 1 1 1) empty (held 1 1) (good ++ good), (15, 0))
    -- 16: the second box has no width; one beyond 65536, one at it; a score of -0, and one above 1
    ∷ (one settings (state 0 0 0) empty no_counters (good ++ box 0 0 0), (16, 1))
    ∷ (one settings (state 0 0 0) empty no_counters (box 0x4780_0001 0x4200_0000 0), (16, 0))
    ∷ (one settings (state 0 0 0) empty no_counters (box 0xc780_0000 0x4780_0000 0x8000_0000), (0, 0))
    ∷ (one settings (state 0 0 0) empty no_counters (box 0 0x4200_0000 0x3f80_0001), (16, 0))
    -- 17
    ∷ (one settings (state 0 0 2147483647) empty no_counters good, (17, 0))
    ∷ (one settings (state 0 0 2147483646) empty no_counters good, (0, 0))
    -- 18 and 19: the output, the doubles or the singles for one less; just enough for two boxes
    ∷ (answer (verdict settings (state 0 0 0) (table empty no_counters) (objects (good ++ good)) (2 * track_bytes - 1) 4 16), (18, 0))
    ∷ (answer (verdict settings (state 0 0 0) (table empty no_counters) (objects (good ++ good)) (2 * track_bytes) 3 16), (19, 0))
    ∷ (answer (verdict settings (state 0 0 0) (table empty no_counters) (objects (good ++ good)) (2 * track_bytes) 4 15), (19, 0))
    ∷ (answer (verdict settings (state 0 0 0) (table empty no_counters) (objects (good ++ good)) (2 * track_bytes) 4 16), (0, 0))
    -- the first that applies is said
    ∷ (answer (verdict not_finite (state 1 1 2147483647) (table (tracked 0x7fc0_0000 0) (held 1 1)) (objects (good ++ box 0 0 0)) 0 0 0), (12, 0))
    ∷ (answer (verdict not_finite (state 1 1 2147483647) (table empty (held 1 1)) (objects (good ++ box 0 0 0)) 0 0 0), (13, 0))
    ∷ (answer (verdict settings (state 1 1 2147483647) (table empty (held 1 1)) (objects (good ++ box 0 0 0)) 0 0 0), (15, 0))
    ∷ (answer (verdict settings (state 0 1 2147483647) (table empty no_counters) (objects (good ++ box 0 0 0)) 0 0 0), (16, 1))
    ∷ (answer (verdict settings (state 0 1 2147483647) (table empty no_counters) (objects good) 0 0 0), (17, 0))
    ∷ (answer (verdict settings (state 0 1 1) (table empty no_counters) (objects good) 0 0 0), (18, 0))
    -- 10: a label of 0 or 4 of the held track; that of a place beyond may be anything
    ∷ (labelled (0 ∷ 1 ∷ []) (1 ∷ []), (10, 0))
    ∷ (labelled (4 ∷ 1 ∷ []) (1 ∷ []), (10, 0))
    ∷ (labelled (3 ∷ 9 ∷ []) (2 ∷ []), (0, 0))
    -- the labels count for the capacity: no place for the held track is 11, none for the box 15
    ∷ (labelled [] (1 ∷ []), (11, 0))
    ∷ (labelled (1 ∷ []) (1 ∷ []), (15, 0))
    -- 20: a label of 0 or 4, and none at all
    ∷ (labelled (1 ∷ 1 ∷ []) (0 ∷ []), (20, 0))
    ∷ (labelled (1 ∷ 1 ∷ []) (4 ∷ []), (20, 0))
    ∷ (labelled (1 ∷ 1 ∷ []) [], (20, 0))
    -- 11, 10, 12 and 16, 20, 17: 16 of any box comes before 20 of the first
    ∷ (answer (verdict settings (state 1 0 1) (table_with empty (held 1 1) (0 ∷ 1 ∷ [])) (objects good) 0 0 0), (11, 0))
    ∷ (answer (verdict settings (state 1 1 1) (table_with (tracked 0x7fc0_0000 0) (held 1 1) (0 ∷ 1 ∷ [])) (objects good) 0 0 0), (10, 0))
    ∷ (answer (verdict settings (state 0 0 0) (table empty no_counters) (boxes_with (good ++ box 0 0 0) (0 ∷ 0 ∷ [])) 0 0 0), (16, 1))
    ∷ (answer (verdict settings (state 0 0 2147483647) (table empty no_counters) (boxes_with (good ++ good) (3 ∷ 7 ∷ [])) 0 0 0), (20, 1))
    -- no table and no box
    ∷ (answer (verdict settings (state 0 0 0) (table_with [] [] []) (boxes_with [] []) 0 0 0), (0, 0))
    ∷ []

pub known : map (λ (row : (ℕ × ℕ) × (ℕ × ℕ)). row.0) rows ≡ map (λ (row : (ℕ × ℕ) × (ℕ × ℕ)). row.1) rows
unfolding verdict of_table of_boxes of_room is_label sound rising every workable updatable predict bad_box_at bad_box beyond tracks track_at tab scan of_bits add lt neg
known = refl
