-- assoc.rs, iou_batch and soft_biou_batch: a cell of each matrix, of a detection's box and a track's.
use Rattle.std.specs.Prelude.{◌≡◌, refl, false, cond, Float}
use Rattle.std.specs.Float.{binary32}
use Rattle.std.specs.Float.Ieee.{of_bits, round, lt}
use Rattle.floats_pick.specs.Pick.{larger, smaller}
use Rattle.floats.specs.Single.{◌⊕◌, ◌⊖◌, ◌⊗◌, ◌⊘◌, plus_zero, one}
use Rattle.assoc_boxes.specs.declared.overlap.BoundingBox.{BoundingBox}
use Rattle.assoc_boxes.specs.declared.overlap.OverlapAreas.{OverlapAreas}

-- a box by its corners, with the width, height and area that the Rust takes from them
abbrev pub bounding_box : Float → Float → Float → Float → BoundingBox
bounding_box x1 y1 x2 y2 = record { x1 = x1; y1 = y1; x2 = x2; y2 = y2; w = x2 ⊖ x1; h = y2 ⊖ y1; area = (x2 ⊖ x1) ⊗ (y2 ⊖ y1) }

-- wh: the area of what two boxes share
unfoldable pub intersection : BoundingBox → BoundingBox → Float
intersection det trk =
    let xx1 : Float = larger det.x1 trk.x1 in
    let yy1 : Float = larger det.y1 trk.y1 in
    let xx2 : Float = smaller det.x2 trk.x2 in
    let yy2 : Float = smaller det.y2 trk.y2 in
    let w : Float = larger (xx2 ⊖ xx1) plus_zero in
    let h : Float = larger (yy2 ⊖ yy1) plus_zero in
    w ⊗ h

unfoldable pub union : BoundingBox → BoundingBox → Float
unfolding intersection
union det trk = det.area ⊕ trk.area ⊖ intersection det trk

unfoldable pub ratio : Float → Float → Float
ratio wh union = cond (lt plus_zero union) (wh ⊘ union) plus_zero

-- a cell's numerator, its denominator and the cell; the areas also where it does not divide
unfoldable pub overlap : BoundingBox → BoundingBox → OverlapAreas
unfolding intersection union ratio
overlap det trk = record { intersection = intersection det trk; union = union det trk; ratio = ratio (intersection det trk) (union det trk) }

-- the cell alone
abbrev pub iou : BoundingBox → BoundingBox → Float
iou det trk = (overlap det trk).ratio

-- ---- soft_biou_batch

-- b1x1, b1y1, b1x2, b1y2 with k1, and b2x1, b2y1, b2x2, b2y2 with k2: the box grown on each side, the more the less sure the track is
abbrev pub buffered : BoundingBox → Float → Float → BoundingBox
buffered b confidence k =
    bounding_box
    (b.x1 ⊖ b.w ⊗ (one ⊖ confidence) ⊗ k)
    (b.y1 ⊖ b.h ⊗ (one ⊖ confidence) ⊗ k)
    (b.x2 ⊕ b.w ⊗ (one ⊖ confidence) ⊗ k)
    (b.y2 ⊕ b.h ⊗ (one ⊖ confidence) ⊗ k)

-- 0.25 and 0.5, by their bits, as the code has them
abbrev pub k1 : Float
k1 = of_bits binary32 0x3e80_0000

abbrev pub k2 : Float
k2 = of_bits binary32 0x3f00_0000

constants : (k1 ≡ round binary32 false 1 4) × (k2 ≡ round binary32 false 1 2)
unfolding of_bits round
constants = (refl, refl)

unfoldable pub soft_biou : BoundingBox → BoundingBox → Float → Float
unfolding overlap
soft_biou det trk confidence = iou (buffered det confidence k1) (buffered trk confidence k2)
