-- Document 01, "Known examples", the cases marked *. A row is what a definition gives, as numbers, and the document's: a float by its bit pattern, pairs by how many they are, their boxes and their tracks.
use Rattle.std.specs.Prelude.{◌≡◌, refl, List, [], ◌∷◌, ◌++◌, map, ℕ, pos, length, Float}
use Rattle.std.specs.Int.Count.{count_trailing_zeros}
use Rattle.std.specs.Float.{binary32}
use Rattle.std.specs.Float.Ieee.{of_bits, to_bits, is_nan, lt, le, eq, of_fields, of_int, add, sub, mul, div, neg, sum, round, units, odd, climb, size, span}
use Rattle.laws.specs.Tab.{tab}
use Rattle.laws.specs.Laid.{rows as laid_rows}
use Rattle.laws.specs.Joined.{joined}
use Rattle.laws.specs.Sieve.{sieve}
use Rattle.laws.specs.Count.{count_where}
use Rattle.laws.specs.Most.{most}
use Rattle.floats.specs.Known as floats
use Rattle.floats_pick.specs.Pick.{larger, smaller}
use Rattle.floats.specs.Power.{powi}
use Rattle.floats.specs.Root.{root}
use Rattle.floats.specs.Exponential.{exp}
use Rattle.strack.specs.Known as strack
use Rattle.strack.specs.Strack.{confidence}
use Rattle.assoc_similarity.specs.Overlap.{intersection, union, ratio, overlap, iou_batch}
use Rattle.lapjv.specs.Answers.{verdict_of}
use Rattle.lapjv_definition.specs.Ca.{ca_from}
use Rattle.lapjv_definition.specs.Carr.{two_from, carr_two, carr_turn, carr_from}
use Rattle.lapjv_definition.specs.Ccrt.{row_from, rows_from, cols_from, min_from, reduce_from}
use Rattle.lapjv_definition.specs.Entry.{owner_of, is_free, row_of}
use Rattle.lapjv_definition.specs.Lapjv.{rounds_from, lapjv}
use Rattle.lapjv_definition.specs.Path.{search_step, search_from, find_path_dense}
use Rattle.assoc_matching.specs.Matching.{boxes_of, tracks_of, above, simple, simple_matches, cost_cell, cost_vec, is_err, extract, extracted, Matched, match_detections}
use Rattle.assoc_assignment.specs.Assignment.{Assignment, assigned_by, linear_assignment}

abbrev whole : ℕ → Float
whole n = of_int binary32 (pos n)

-- 0.3 and 0.5
abbrev threshold : Float
threshold = floats.f32 0x3e99_999a

abbrev half : Float
half = floats.f32 0x3f00_0000

abbrev corners : ℕ → ℕ → ℕ → ℕ → List Float
corners x1 y1 x2 y2 = whole x1 ∷ whole y1 ∷ whole x2 ∷ whole y2 ∷ []

abbrev iou : List Float → List Float → List ℕ
iou detection track = floats.bits (iou_batch detection track 0 0) ∷ []

-- how many pairs, row turns and column scans, and the pairs
abbrev pairs : Matched → List ℕ
pairs a = length a.matches ∷ a.turns ∷ a.scans ∷ (boxes_of a.matches ++ tracks_of a.matches)

-- how many pairs and unmatched boxes, and the unmatched tracks
abbrev tracks_left : Assignment → List ℕ
tracks_left a = length a.matches ∷ length a.unmatched_detections ∷ a.unmatched_tracks

abbrev single : List (ℕ × ℕ) → List (List ℕ × List ℕ)
single rows = map (λ (row : ℕ × ℕ). (row.0 ∷ [], row.1 ∷ [])) rows

abbrev pub rows : List (List ℕ × List ℕ)
rows =
    -- exp, the root of 2, powers of 0.9
    single floats.rows
    -- a new pair predicted once, 0.9 to -1 and to 0 as a track's confidence
    ++ (single strack.rows
    -- IoU of corners (0, 0, 10, 10) and (5, 0, 15, 10)
    ++ ((iou (corners 0 0 10 10) (corners 5 0 15 10), 0x3eaa_aaab ∷ [])
    -- touching at an edge
    ∷ (iou (corners 0 0 10 10) (corners 10 0 20 10), 0 ∷ [])
    -- two boxes without area
    ∷ (iou (corners 3 3 3 3) (corners 3 3 3 3), 0 ∷ [])
    -- costs all 0.5, two by two, threshold 0.3: the pairs (0, 0) and (1, 1), 1 turn, 0 scans
    ∷ (pairs (match_detections (half ∷ half ∷ half ∷ half ∷ []) 2 2 threshold), 2 ∷ 1 ∷ 0 ∷ 0 ∷ 1 ∷ 0 ∷ 1 ∷ [])
    -- one cost equal to the threshold: no pair
    ∷ (pairs (match_detections (threshold ∷ []) 1 1 threshold), 0 ∷ 0 ∷ 0 ∷ [])
    -- no boxes, three tracks: unmatched tracks 0, 1, 2
    ∷ (tracks_left (linear_assignment [] [] 0 3 threshold), 0 ∷ 0 ∷ 0 ∷ 1 ∷ 2 ∷ [])
    ∷ []))

pub known : map (λ (row : List ℕ × List ℕ). row.0) rows ≡ map (λ (row : List ℕ × List ℕ). row.1) rows
unfolding powi exp root confidence larger smaller intersection union ratio overlap
    match_detections above simple simple_matches is_err verdict_of cost_cell cost_vec extract extracted assigned_by joined laid_rows tab sieve count_where most
    owner_of is_free row_of lapjv rounds_from carr_two carr_turn carr_from two_from row_from rows_from cols_from min_from reduce_from search_step search_from find_path_dense ca_from
    lt le eq is_nan to_bits of_bits of_fields of_int add sub mul div neg sum round units odd climb size span count_trailing_zeros
known = refl
