-- The cost of a cell by its two cases, with confidences and without, is the definition; and where a cost looks at a distance. Assumes nothing.
use mathlib.Core.Path.{◌≡◌, refl, ap}
use mathlib.Core.Bool.{Bool, true, false}
use lib.Ieee.{Float}
use Rattle.assoc_cost.specs.declared.cost.AssociateParams.{AssociateParams}
use Rattle.assoc_boxes.specs.declared.overlap.BoundingBox.{BoundingBox}
use Rattle.assoc_similarity.specs.Overlap.{iou}
use Rattle.assoc_cost.specs.Cost.{conf_of, cost_cell}
use Rattle.assoc_cost.specs.Private.{sure_cost, unsure_cost}

module _ (params : AssociateParams) (det trk : BoundingBox) (det_conf trk_conf mh_sim : Float) where
  pub sure-is : params.has_confidence ≡ true → sure_cost params det trk (iou det trk) (conf_of params.iou_threshold (iou det trk) det_conf trk_conf) mh_sim ≡ cost_cell params det trk det_conf trk_conf mh_sim
  unfolding cost_cell sure_cost
  sure-is e = rw e

  pub unsure_is : params.has_confidence ≡ false → unsure_cost params (iou det trk) mh_sim ≡ cost_cell params det trk det_conf trk_conf mh_sim
  unfolding cost_cell unsure_cost
  unsure_is e = rw e

-- only where there are distances does their similarity matter
pub cost_ext : (params : AssociateParams) (det trk : BoundingBox) (det_conf trk_conf mh mh' : Float) → (params.has_mahalanobis ≡ true → mh ≡ mh')
    → cost_cell params det trk det_conf trk_conf mh ≡ cost_cell params det trk det_conf trk_conf mh'
unfolding cost_cell
cost_ext params det trk det_conf trk_conf mh mh' h = by_flag params.has_mahalanobis refl
  where
    by_flag : (b : Bool) → params.has_mahalanobis ≡ b → cost_cell params det trk det_conf trk_conf mh ≡ cost_cell params det trk det_conf trk_conf mh'
    by_flag true e = ap (cost_cell params det trk det_conf trk_conf) (h e)
    by_flag false e = rw e
