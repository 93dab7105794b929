-- The boxes of a frame as one value: five floats each, document 01's left, top, width, height and score, and 02's N2: a label each.
use Rattle.std.specs.Prelude.{List, ℕ, Float}

pub record Boxes : Type 0 where
  pub values : List Float
  -- a byte a box; a box without one is as one with label 0
  pub labels : List ℕ

abbrev pub boxes_with : List Float → List ℕ → Boxes
boxes_with values labels = record { values = values; labels = labels }
