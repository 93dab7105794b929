-- The definition computes. A row is the bit patterns of intersection, union and ratio, and the ones worked out by hand from the Rust's text.
use Rattle.std.specs.Prelude.{◌≡◌, refl, List, [], ◌∷◌, map, ℕ, pos, Float}
use Rattle.std.specs.Float.{binary32}
use Rattle.std.specs.Float.Ieee.{of_bits, to_bits, of_int, is_nan, add, sub, mul, div, sum, lt, le, eq, round, units, odd, size, climb, span, of_fields}
use Rattle.floats.specs.Known.{f32, bits}
use Rattle.floats_pick.specs.Pick.{larger, smaller}
use Rattle.assoc_boxes.specs.declared.overlap.BoundingBox.{BoundingBox}
use Rattle.assoc_boxes.specs.Overlap.{bounding_box, intersection, union, ratio, overlap}

abbrev whole : ℕ → Float
whole n = of_int binary32 (pos n)

abbrev box : ℕ → ℕ → ℕ → ℕ → BoundingBox
box x1 y1 x2 y2 = bounding_box (whole x1) (whole y1) (whole x2) (whole y2)

-- from x1 to x2, by their bits, and from 0 to 10 in the other direction
abbrev wide : ℕ → ℕ → BoundingBox
wide x1 x2 = bounding_box (f32 x1) (whole 0) (f32 x2) (whole 10)

abbrev areas : BoundingBox → BoundingBox → List ℕ
areas det trk = bits (overlap det trk).intersection ∷ bits (overlap det trk).union ∷ bits (overlap det trk).ratio ∷ []

abbrev pub rows : List (List ℕ × List ℕ)
rows =
    -- 50 of 150
    (areas (box 0 0 10 10) (box 5 0 15 10), 0x4248_0000 ∷ 0x4316_0000 ∷ 0x3eaa_aaab ∷ [])
    -- touching at an edge, and apart in both directions: none of 200
    ∷ (areas (box 0 0 10 10) (box 10 0 20 10), 0 ∷ 0x4348_0000 ∷ 0 ∷ [])
    ∷ (areas (box 0 0 10 10) (box 20 20 30 30), 0 ∷ 0x4348_0000 ∷ 0 ∷ [])
    -- one inside the other: 4 of 100
    ∷ (areas (box 0 0 10 10) (box 4 4 6 6), 0x4080_0000 ∷ 0x42c8_0000 ∷ 0x3d23_d70a ∷ [])
    -- without area, and with a width of -2: none of 0 and of -40, and the cell does not divide
    ∷ (areas (box 3 3 3 3) (box 3 3 3 3), 0 ∷ 0 ∷ 0 ∷ [])
    ∷ (areas (box 4 0 2 10) (box 4 0 2 10), 0 ∷ 0xc220_0000 ∷ 0 ∷ [])
    -- a corner that is no number: the other box's counts, 50 of a NaN
    ∷ (areas (wide 0x7fc0_0000 0x4120_0000) (box 5 0 15 10), 0x4248_0000 ∷ 0x7fc0_0000 ∷ 0 ∷ [])
    -- up to infinity: 50 of an infinity with a finite box; an infinity of a NaN with itself
    ∷ (areas (wide 0 0x7f80_0000) (box 5 0 10 10), 0x4248_0000 ∷ 0x7f80_0000 ∷ 0 ∷ [])
    ∷ (areas (wide 0 0x7f80_0000) (wide 0 0x7f80_0000), 0x7f80_0000 ∷ 0x7fc0_0000 ∷ 0 ∷ [])
    -- the same of an area that overflows, and the smallest width there is: 10 of 10 of it
    ∷ (areas (wide 0 0x7f00_0000) (wide 0 0x7f00_0000), 0x7f80_0000 ∷ 0x7fc0_0000 ∷ 0 ∷ [])
    ∷ (areas (wide 0 1) (wide 0 1), 10 ∷ 10 ∷ 0x3f80_0000 ∷ [])
    ∷ []

pub known : map (λ (row : List ℕ × List ℕ). row.0) rows ≡ map (λ (row : List ℕ × List ℕ). row.1) rows
unfolding larger smaller intersection union ratio overlap of_bits to_bits of_int is_nan add sub mul div sum lt le eq round units odd size climb span of_fields
known = refl
