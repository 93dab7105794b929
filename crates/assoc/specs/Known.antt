-- The definition computes, by 02's rule of labels: two boxes that stand where two tracks do. A row is what it gives, and what was worked out by hand: the boxes and the tracks of the pairs, then both unmatched lists.
-- And of two boxes that share a third the areas, where they are alike and where they are not.
use Rattle.std.specs.Prelude.{◌≡◌, refl, true, false, List, [], ◌∷◌, ◌++◌, map, ℕ, pos, Float}
use Rattle.std.specs.Float.{binary32}
use Rattle.std.specs.Float.Ieee.{of_bits, to_bits, of_int, is_nan, add, sub, mul, div, sum, lt, le, eq, round, units, odd, size, climb, span, of_fields}
use Rattle.laws.specs.Tab.{tab}
use Rattle.laws.specs.Laid.{rows as laid_rows, laid}
use Rattle.laws.specs.Packed.{packed}
use Rattle.laws.specs.Joined.{joined}
use Rattle.laws.specs.Sieve.{sieve}
use Rattle.laws.specs.Elem.{elem}
use Rattle.laws.specs.Count.{count_where}
use Rattle.laws.specs.Most.{most}
use Rattle.labels.specs.Label.{same_label}
use Rattle.floats.specs.Known.{f32, bits}
use Rattle.floats_pick.specs.Pick.{larger, smaller}
use Rattle.assoc_cost.specs.declared.cost.AssociateParams.{AssociateParams}
use Rattle.assoc_boxes.specs.declared.overlap.OverlapAreas.{OverlapAreas}
use Rattle.assoc_similarity.specs.Overlap.{intersection, union, ratio, overlap, box_at}
use Rattle.assoc_matching.specs.Matching.{boxes_of, tracks_of, above, simple, simple_matches, match_detections}
use Rattle.assoc_assignment.specs.Assignment.{Assignment, unmatched, valid_match, assigned_by}
use Rattle.assoc_cost.specs.Cost.{cost_cell}
use Rattle.assoc.specs.Association.{label_rule, stands, associate_by, associate}

abbrev whole : ℕ → Float
whole n = of_int binary32 (pos n)

abbrev corners : ℕ → ℕ → List Float
corners left right = whole left ∷ whole 0 ∷ whole right ∷ whole 10 ∷ []

-- two beside each other
abbrev places : List Float
places = corners 0 10 ++ corners 20 30

-- neither distances nor confidences, so that the cost is the IoU
abbrev params : Float → AssociateParams
params threshold = record {
  iou_threshold = threshold;
  lambda_iou = whole 0;
  lambda_mhd = whole 0;
  lambda_shape = whole 0;
  use_shape_similarity_correction = false;
  has_mahalanobis = false;
  has_confidence = false;
}

abbrev paired : Float → List ℕ → List ℕ → List (List ℕ)
paired threshold box_labels track_labels =
    let a : Assignment = associate (params threshold) 2 2 places places [] [] [] box_labels track_labels in
    boxes_of a.matches ∷ tracks_of a.matches ∷ a.unmatched_detections ∷ a.unmatched_tracks ∷ []

-- one box and one track
abbrev alone : Float → ℕ → ℕ → List (List ℕ)
alone threshold box_label track_label =
    let a : Assignment = associate (params threshold) 1 1 places places [] [] [] (box_label ∷ []) (track_label ∷ []) in
    boxes_of a.matches ∷ tracks_of a.matches ∷ a.unmatched_detections ∷ a.unmatched_tracks ∷ []

-- 0.3 and -1
abbrev three_tenths : Float
three_tenths = f32 0x3e99_999a

abbrev minus_one : Float
minus_one = f32 0xbf80_0000

abbrev pub rows : List (List (List ℕ) × List (List ℕ))
rows =
    -- a sleeper and a partner, both seen
    (paired three_tenths (1 ∷ 2 ∷ []) (1 ∷ 2 ∷ []), (0 ∷ 1 ∷ []) ∷ (0 ∷ 1 ∷ []) ∷ [] ∷ [] ∷ [])
    -- staff where the partner was
    ∷ (paired three_tenths (1 ∷ 3 ∷ []) (1 ∷ 2 ∷ []), (0 ∷ []) ∷ (0 ∷ []) ∷ (1 ∷ []) ∷ (1 ∷ []) ∷ [])
    -- nobody where someone alike was
    ∷ (paired three_tenths (2 ∷ 1 ∷ []) (1 ∷ 2 ∷ []), [] ∷ [] ∷ (0 ∷ 1 ∷ []) ∷ (0 ∷ 1 ∷ []) ∷ [])
    -- an unlike pair at thresholds of 0, where its cost of 0 is not above it, and of -1, where the direct path proposes it
    ∷ (alone (whole 0) 3 2, [] ∷ [] ∷ (0 ∷ []) ∷ (0 ∷ []) ∷ [])
    ∷ (alone minus_one 3 2, [] ∷ [] ∷ (0 ∷ []) ∷ (0 ∷ []) ∷ [])
    ∷ (alone minus_one 2 2, (0 ∷ []) ∷ (0 ∷ []) ∷ [] ∷ [] ∷ [])
    ∷ []

pub known : map (λ (row : List (List ℕ) × List (List ℕ)). row.0) rows ≡ map (λ (row : List (List ℕ) × List (List ℕ)). row.1) rows
unfolding associate_by stands same_label cost_cell larger smaller intersection union ratio overlap match_detections above simple simple_matches unmatched valid_match assigned_by
    joined packed laid laid_rows tab sieve elem count_where most of_bits of_int is_nan add sub mul div sum lt le eq round units odd size climb span of_fields
known = refl

-- ---- the areas stay

abbrev shared : OverlapAreas
shared = overlap (box_at (corners 0 10) 0) (box_at (corners 5 15) 0)

abbrev areas : OverlapAreas → List ℕ
areas o = bits o.intersection ∷ bits o.union ∷ bits o.ratio ∷ []

-- 50 of 150, and the ratio a third, or 0
pub known-areas : (areas (label_rule true shared) ≡ 0x4248_0000 ∷ 0x4316_0000 ∷ 0x3eaa_aaab ∷ []) × (areas (label_rule false shared) ≡ 0x4248_0000 ∷ 0x4316_0000 ∷ 0 ∷ [])
unfolding larger smaller intersection union ratio overlap of_bits to_bits of_int is_nan add sub mul div sum lt le eq round units odd size climb span of_fields
known-areas = (refl, refl)
