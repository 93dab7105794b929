-- What the contracts of the private functions cite: the cost of a cell, with confidences and without. proofs/CostLaws.antt shows that it comes to the definition.
use Rattle.std.specs.Prelude.{cond, Float}
use Rattle.floats.specs.Single.{◌⊕◌, ◌⊗◌}
use Rattle.assoc_boxes.specs.declared.overlap.BoundingBox.{BoundingBox}
use Rattle.assoc_similarity.specs.Shape.{shape_v1, shape_v2}
use Rattle.assoc_cost.specs.declared.cost.AssociateParams.{AssociateParams}

unfoldable pub sure_cost : AssociateParams → BoundingBox → BoundingBox → Float → Float → Float → Float
sure_cost params det trk iou conf mh_sim =
    let weighted : Float = iou ⊕ params.lambda_iou ⊗ conf ⊗ iou in
    cond params.has_mahalanobis
    (weighted ⊕ params.lambda_mhd ⊗ mh_sim ⊕ params.lambda_shape ⊗ conf ⊗ cond params.use_shape_similarity_correction (shape_v2 det trk) (shape_v1 det trk))
    weighted

unfoldable pub unsure_cost : AssociateParams → Float → Float → Float
unsure_cost params iou mh_sim = cond params.has_mahalanobis (iou ⊕ params.lambda_mhd ⊗ mh_sim) iou
