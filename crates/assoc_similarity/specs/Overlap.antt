-- assoc.rs, iou_batch and soft_biou_batch: cell (i, j) of each matrix. With no detections or no tracks a matrix has no cells, which is what the Rust's early returns give.
-- What a cell is of its two boxes: crates/assoc_boxes.
use Rattle.std.specs.Prelude.{List, ℕ, ◌+◌, ◌*◌, get_or, Float}
use Rattle.std.specs.Float.{nan}
use Rattle.floats.specs.Single.{plus_zero}
use Rattle.assoc_boxes.specs.Overlap.{bounding_box}
pub use Rattle.assoc_boxes.specs.Overlap.{iou}
use Rattle.assoc_boxes.specs.declared.overlap.BoundingBox.{BoundingBox}
unfoldable pub use Rattle.assoc_boxes.specs.Overlap.{intersection, union, ratio, overlap, soft_biou}

-- box i of a list of corners
abbrev pub box_at : List Float → ℕ → BoundingBox
box_at s i = bounding_box (get_or s (i * 4) nan) (get_or s (i * 4 + 1) nan) (get_or s (i * 4 + 2) nan) (get_or s (i * 4 + 3) nan)

abbrev pub iou_batch : List Float → List Float → ℕ → ℕ → Float
iou_batch detections tracks i j = iou (box_at detections i) (box_at tracks j)

abbrev pub soft_biou_batch : List Float → List Float → List Float → ℕ → ℕ → Float
soft_biou_batch detections tracks track_confidences i j = soft_biou (box_at detections i) (box_at tracks j) (get_or track_confidences j plus_zero)
