-- The definition computes. A row is the bit patterns of what it gives, and the ones worked out by hand from the Rust's text.
use Rattle.std.specs.Prelude.{◌≡◌, refl, cond, List, [], ◌∷◌, ◌++◌, map, ℕ, eqb, Float}
use Rattle.std.specs.Float.Ieee.{of_bits, to_bits, of_int, is_nan, add, sub, mul, div, sum, neg, lt, le, eq, round, units, odd, size, climb, span, of_fields}
use Rattle.laws.specs.Tab.{tab}
use Rattle.laws.specs.Fold.{fold}
use Rattle.laws.specs.Sieve.{sieve}
use Rattle.laws.specs.Elem.{elem}
use Rattle.floats.specs.Known.{f32, bits}
use Rattle.floats_pick.specs.Pick.{larger, smaller}
use Rattle.assoc_similarity.specs.Overlap.{intersection, union, ratio, overlap}
use Rattle.boost_tracker_boosts.specs.Examples.{whole, box, tenth, det_thresh}
use Rattle.boost_tracker_duo.specs.Duo.{min_mh_dist, is_candidate, boost_candidates, bdiou, bdiou_max, remaining, args, tmp, args_set, args_tmp, conf_max, is_most, remaining_boxes, masked, duo_confidence_boost}

-- 0.25 and 0.5
abbrev quarter : Float
quarter = f32 0x3e80_0000

abbrev half : Float
half = f32 0x3f00_0000

-- three boxes that overlap each other by more than 0.3, two of them tied, one that stands alone, and one that is near a track
abbrev duo : ℕ → List ℕ
duo frame_count =
    map bits
    (duo_confidence_boost frame_count det_thresh (box 0 0 10 10 ++ (box 1 0 11 10 ++ (box 2 0 12 10 ++ (box 40 40 50 50 ++ box 100 0 110 10))))
    (λ i j. cond (eqb i 4) (whole 1) (whole 100)) 5 1 (half ∷ half ∷ quarter ∷ tenth ∷ tenth ∷ []))

-- both that are tied and the one alone go to 0.6 + 1e-4; in the first frame none does
abbrev pub rows : List (List ℕ × List ℕ)
rows =
    (duo 2, 0x3f19_a028 ∷ 0x3f19_a028 ∷ 0x3e80_0000 ∷ 0x3f19_a028 ∷ 0x3dcc_cccd ∷ [])
    ∷ (duo 1, 0x3f00_0000 ∷ 0x3f00_0000 ∷ 0x3e80_0000 ∷ 0x3dcc_cccd ∷ 0x3dcc_cccd ∷ [])
    ∷ []

pub known : map (λ (row : List ℕ × List ℕ). row.0) rows ≡ map (λ (row : List ℕ × List ℕ). row.1) rows
unfolding tab fold sieve elem larger smaller intersection union ratio overlap min_mh_dist is_candidate boost_candidates bdiou bdiou_max remaining args tmp args_set args_tmp conf_max
    is_most remaining_boxes masked duo_confidence_boost of_bits to_bits of_int is_nan add sub mul div sum neg lt le eq round units odd size climb span of_fields
known = refl
