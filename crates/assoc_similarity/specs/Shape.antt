-- assoc.rs, shape_similarity_v1 and shape_similarity_v2: cell (i, j) of each matrix. What a cell is of its two boxes: crates/assoc_boxes.
use Rattle.std.specs.Prelude.{List, ℕ, Float}
use Rattle.assoc_similarity.specs.Overlap.{box_at}
unfoldable pub use Rattle.assoc_boxes.specs.Shape.{shape_v1, shape_v2}

abbrev pub shape_similarity_v1 : List Float → List Float → ℕ → ℕ → Float
shape_similarity_v1 detections tracks i j = shape_v1 (box_at detections i) (box_at tracks j)

abbrev pub shape_similarity_v2 : List Float → List Float → ℕ → ℕ → Float
shape_similarity_v2 detections tracks i j = shape_v2 (box_at detections i) (box_at tracks j)
