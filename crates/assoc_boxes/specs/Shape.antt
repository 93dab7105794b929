-- assoc.rs, shape_similarity_v1 and shape_similarity_v2: a cell of each matrix, of a detection's box and a track's.
use Rattle.std.specs.Prelude.{Float}
use Rattle.std.specs.Float.Ieee.{neg}
use Rattle.floats.specs.Single.{◌⊕◌, ◌⊖◌, ◌⊘◌}
use Rattle.floats_pick.specs.Pick.{larger, abs}
use Rattle.floats.specs.Exponential.{exp}
use Rattle.assoc_boxes.specs.declared.overlap.BoundingBox.{BoundingBox}

-- v1 divides both differences by the larger width
abbrev pub exponent_v1 : BoundingBox → BoundingBox → Float
exponent_v1 det trk =
    let dw : Float = det.w in
    let dh : Float = det.h in
    let tw : Float = trk.w in
    let th : Float = trk.h in
    let denom : Float = larger dw tw in
    neg (abs (dw ⊖ tw) ⊘ denom ⊕ abs (dh ⊖ th) ⊘ denom)

unfoldable pub shape_v1 : BoundingBox → BoundingBox → Float
shape_v1 det trk = exp (exponent_v1 det trk)

-- v2 each by the larger of its own
abbrev pub exponent_v2 : BoundingBox → BoundingBox → Float
exponent_v2 det trk =
    let dw : Float = det.w in
    let dh : Float = det.h in
    let tw : Float = trk.w in
    let th : Float = trk.h in
    neg (abs (dw ⊖ tw) ⊘ larger dw tw ⊕ abs (dh ⊖ th) ⊘ larger dh th)

unfoldable pub shape_v2 : BoundingBox → BoundingBox → Float
shape_v2 det trk = exp (exponent_v2 det trk)
