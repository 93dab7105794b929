-- `cost::conf_of` meets its contract: each return is the definition's where the test is as the return found it. Assumes nothing.
use Rattle.assoc_cost.specs.Cost.{conf_of}
use Rattle.assoc_cost.proofs.cost.conf_of.Goals as goal

pub returns-then-iou-iou_threshold : goal.returns-then-iou-iou_threshold
unfolding conf_of
returns-then-iou-iou_threshold c = rw c.if-iou-iou_threshold.true

pub returns : goal.returns
unfolding conf_of
returns c = rw c.if-iou-iou_threshold.false
