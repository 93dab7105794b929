-- Boxes: `Rect` of rect.rs, lines 14-135, at f32: left, top, width, height. The larger and the smaller are document 01's, those of floats_pick; the accessors are the fields.
use Rattle.std.specs.Prelude.{cond, Float}
use Rattle.std.specs.Float.Ieee.{lt, le}
use Rattle.floats_pick.specs.Pick.{larger, smaller}
use Rattle.strack.specs.declared.rect.Rect.{Rect}
use Rattle.strack.specs.declared.rect.Xyah.{Xyah}
use Rattle.strack.specs.declared.rect.Xyxy.{Xyxy}
use Rattle.floats.specs.Single.{◌⊕◌, ◌⊖◌, ◌⊗◌, ◌⊘◌, plus_zero, one, two}

abbrev pub new : Float → Float → Float → Float → Rect
new x y width height = record { left = x; top = y; width = width; height = height }

abbrev pub area : Rect → Float
area s = (s.width ⊕ one) ⊗ (s.height ⊕ one)

-- (from + extent).min(other + size) - from.max(other) + 1
abbrev pub shared_length : Float → Float → Float → Float → Float
shared_length from extent other size = smaller (from ⊕ extent) (other ⊕ size) ⊖ larger from other ⊕ one

abbrev pub iou_over : Rect → Float → Float → Float → Float
iou_over s box_area iw ih =
    let ua : Float = (s.width ⊕ one) ⊗ (s.height ⊕ one) ⊕ box_area ⊖ iw ⊗ ih in
    iw ⊗ ih ⊘ ua

unfoldable pub calc_iou : Rect → Rect → Float
calc_iou s other =
    let iw = shared_length s.left s.width other.left other.width in
    let ih = shared_length s.top s.height other.top other.height in
    cond (lt plus_zero iw) (cond (lt plus_zero ih) (iou_over s (area other) iw ih) plus_zero) plus_zero

abbrev pub get_xyah : Rect → Xyah
get_xyah s = record { x = s.left ⊕ s.width ⊘ two; y = s.top ⊕ s.height ⊘ two; a = s.width ⊘ s.height; h = s.height }

abbrev pub get_xyxy : Rect → Xyxy
get_xyxy s = record { x1 = s.left; y1 = s.top; x2 = s.left ⊕ s.width; y2 = s.top ⊕ s.height }

abbrev pub from_xyxy : Float → Float → Float → Float → Rect
from_xyxy x1 y1 x2 y2 = new x1 y1 (x2 ⊖ x1) (y2 ⊖ y1)

-- w = if r <= 0 { 0 } else { r * h }
unfoldable pub width_of : Float → Float → Float
width_of h r = cond (le r plus_zero) plus_zero (r ⊗ h)

abbrev pub centred : Float → Float → Float → Float → Rect
centred x y w h = new (x ⊖ w ⊘ two) (y ⊖ h ⊘ two) w h

abbrev pub from_xyhr : Float → Float → Float → Float → Rect
from_xyhr x y h r = centred x y (width_of h r) h
