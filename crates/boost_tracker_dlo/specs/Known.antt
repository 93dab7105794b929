-- The definitions compute. A row is the bit patterns of what they give, and the ones worked out by hand from the Rust's text.
use Rattle.std.specs.Prelude.{◌≡◌, ℕ, Bool, true, false, List, [], ◌∷◌, map, refl}
use Rattle.std.specs.Float.Ieee.{of_bits, to_bits, of_int, is_nan, add, sub, mul, div, sum, neg, lt, le, eq, round, units, odd, size, climb, span, of_fields}
use Rattle.laws.specs.Tab.{tab}
use Rattle.laws.specs.Fold.{fold}
use Rattle.laws.specs.Scan.{scan}
use Rattle.floats.specs.Known.{bits}
use Rattle.floats.specs.Single.{◌⊖◌, one}
use Rattle.floats_pick.specs.Pick.{larger, smaller, abs}
use Rattle.floats.specs.Root.{root}
use Rattle.floats.specs.Power.{powf15}
use Rattle.floats.specs.Exponential.{exp}
use Rattle.assoc_similarity.specs.Overlap.{intersection, union, ratio, overlap, soft_biou}
use Rattle.assoc_similarity.specs.Shape.{shape_v1, shape_v2}
use Rattle.assoc_similarity.specs.Mahalanobis.{normalized, similarity as shared}
use Rattle.boost_tracker_boosts.specs.Examples.{whole, box, tenth, det_thresh}
use Rattle.boost_tracker_dlo.specs.declared.dlo.DloSettings.{DloSettings}
use Rattle.boost_tracker_dlo.specs.Dlo.{similarity, alpha, alpha_vt, threshold, max_s, coefficient, soft, should_boost, varying, boosted, dlo_confidence_boost}

-- with dlo_boost_coef 0.65
abbrev settings : Bool → Bool → Bool → DloSettings
settings rich soft varying = record { rich = rich; corrected = true; soft = soft; varying = varying; coef = alpha; thresh = det_thresh }

-- one box of score 0.1, and as many tracks that stand where it does, each sure and corrected in the last frame, all alike or none
abbrev dlo : Bool → DloSettings → ℕ → List ℕ
dlo like self tracks = map bits (dlo_confidence_boost (λ i j. like) self (box 0 0 10 10) (box 0 0 10 10) (one ∷ []) (λ i j. whole 0) (λ j. 1) 1 tracks (tenth ∷ []))

abbrev pub rows : List (List ℕ × List ℕ)
rows =
    -- 1 - 0.65, (0.95 - 0.8) / 20, and the thresholds from 0.95 down to 0.8
    (map bits ((one ⊖ alpha) ∷ alpha_vt ∷ []), 0x3eb3_3334 ∷ 0x3bf5_c28d ∷ [])
    ∷ (map bits (map threshold (0 ∷ 1 ∷ 2 ∷ 22 ∷ [])), 0x3f73_3333 ∷ 0x3f73_3333 ∷ 0x3f71_47ae ∷ 0x3f4c_cccd ∷ [])
    -- a boost by 0.65, one by 0.65 * 0.1 + 0.35 * 1, one to 0.6 + 1e-5, the last two together, the first by the rich similarity, and none without tracks
    ∷ (dlo true (settings false false false) 1, 0x3f26_6666 ∷ [])
    ∷ (dlo true (settings false true false) 1, 0x3ed4_7ae2 ∷ [])
    ∷ (dlo true (settings false false true) 1, 0x3f19_9a42 ∷ [])
    ∷ (dlo true (settings false true true) 1, 0x3f19_9a42 ∷ [])
    ∷ (dlo true (settings true false false) 1, 0x3f26_6666 ∷ [])
    ∷ (dlo true (settings false false false) 0, 0x3dcc_cccd ∷ [])
    -- a track of another label boosts by none of these; the soft boost of it is 0.65 * 0.1, which is below 0.1
    ∷ (dlo false (settings false false false) 1, 0x3dcc_cccd ∷ [])
    ∷ (dlo false (settings true true true) 1, 0x3dcc_cccd ∷ [])
    ∷ []

pub known : map (λ (row : List ℕ × List ℕ). row.0) rows ≡ map (λ (row : List ℕ × List ℕ). row.1) rows
unfolding tab fold scan larger smaller abs root powf15 exp intersection union ratio overlap soft_biou shape_v1 shape_v2 normalized shared similarity threshold max_s coefficient soft
    should_boost varying boosted dlo_confidence_boost of_bits to_bits of_int is_nan add sub mul div sum neg lt le eq round units odd size climb span of_fields
known = refl
