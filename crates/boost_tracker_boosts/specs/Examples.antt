-- The boxes and numbers that the examples of both boosts are written with.
use Rattle.std.specs.Prelude.{List, [], ◌∷◌, ℕ, pos, Float}
use Rattle.std.specs.Float.{binary32}
use Rattle.std.specs.Float.Ieee.{of_int}
use Rattle.floats.specs.Known.{f32}

abbrev pub whole : ℕ → Float
whole n = of_int binary32 (pos n)

-- a box of the corners (left, top) and (right, bottom)
abbrev pub box : ℕ → ℕ → ℕ → ℕ → List Float
box left top right bottom = whole left ∷ whole top ∷ whole right ∷ whole bottom ∷ []

-- 0.1 and 0.6
abbrev pub tenth : Float
tenth = f32 0x3dcc_cccd

abbrev pub det_thresh : Float
det_thresh = f32 0x3f19_999a
