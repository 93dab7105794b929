-- `associate` of assoc.rs, lines 692-751, its cost matrix: cell (i, j), for the similarity mh_sim of the distances. The Rust's Options are flags beside the lists: where a flag is false its list is not looked at.
-- `mh_dist.nrows() > 0 && mh_dist.ncols() > 0` holds of each matrix that has a cell.
use Rattle.std.specs.Prelude.{cond, List, ℕ, get_or, Float}
use Rattle.std.specs.Float.Ieee.{le}
use Rattle.floats.specs.Single.{◌⊕◌, ◌⊗◌, plus_zero}
use Rattle.assoc_cost.specs.declared.cost.AssociateParams.{AssociateParams}
use Rattle.assoc_boxes.specs.declared.overlap.BoundingBox.{BoundingBox}
use Rattle.assoc_similarity.specs.Overlap.{box_at, overlap}
use Rattle.assoc_similarity.specs.Shape.{shape_v1, shape_v2}

-- det_conf[i] * trk_conf[j] where the IoU is at least the threshold
unfoldable pub conf_of : Float → Float → Float → Float → Float
conf_of iou_threshold iou det_conf trk_conf = cond (le iou_threshold iou) (det_conf ⊗ trk_conf) plus_zero

unfoldable pub cost_cell : AssociateParams → BoundingBox → BoundingBox → Float → Float → Float → Float
unfolding conf_of
cost_cell params det trk det_conf trk_conf mh_sim =
    let iou : Float = (overlap det trk).ratio in
    let conf : Float = conf_of params.iou_threshold iou det_conf trk_conf in
    let shape_sim : Float = cond params.use_shape_similarity_correction (shape_v2 det trk) (shape_v1 det trk) in
    -- step 3: lambda_iou * conf * iou
    let weighted : Float = cond params.has_confidence (iou ⊕ params.lambda_iou ⊗ conf ⊗ iou) iou in
    -- step 4: lambda_mhd * mh_sim, and lambda_shape * conf * shape_sim
    let near : Float = weighted ⊕ params.lambda_mhd ⊗ mh_sim in
    cond params.has_mahalanobis (cond params.has_confidence (near ⊕ params.lambda_shape ⊗ conf ⊗ shape_sim) near) weighted

abbrev pub cost_matrix : AssociateParams → List Float → List Float → List Float → List Float → (ℕ → ℕ → Float) → ℕ → ℕ → Float
cost_matrix params detections tracks track_confidence detection_confidence mh_sim i j =
    cost_cell params (box_at detections i) (box_at tracks j) (get_or detection_confidence i plus_zero) (get_or track_confidence j plus_zero) (mh_sim i j)
