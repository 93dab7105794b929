-- Document 02, N9: "the id, IoU and areas of the track it was paired with, or zeros."
use Rattle.std.specs.Prelude.{Bool, false, ℕ}
use Rattle.floats.specs.Single.{plus_zero}
use Rattle.strack.specs.declared.rect.Xyxy.{Xyxy}
use Rattle.assoc_boxes.specs.declared.overlap.BoundingBox.{BoundingBox}
use Rattle.assoc_boxes.specs.declared.overlap.OverlapAreas.{OverlapAreas}
use Rattle.assoc_boxes.specs.Overlap.{bounding_box, overlap}
use Rattle.assoc.specs.Association.{label_rule}
use Rattle.boost_tracker_fate.specs.declared.kinds.Partner.{Partner}

abbrev pub box_of : Xyxy → BoundingBox
box_of c = bounding_box c.x1 c.y1 c.x2 c.y2

-- by whether the two are alike; the IoU is the ratio
abbrev pub partner_of : Bool → OverlapAreas → ℕ → Partner
partner_of same areas id = record { id = id; alike = same; iou = areas.ratio; intersection = areas.intersection; union = areas.union }

-- of the box det and the predicted track trk, by 02's rule for labels: the IoU is 0 under unequal ones, and the areas are as computed
abbrev pub partner_with : Bool → Xyxy → Xyxy → ℕ → Partner
partner_with same det trk id = partner_of same (label_rule same (overlap (box_of det) (box_of trk))) id

abbrev pub nobody : Partner
nobody = record { id = 0; alike = false; iou = plus_zero; intersection = plus_zero; union = plus_zero }
