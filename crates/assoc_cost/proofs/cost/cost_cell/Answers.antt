-- `cost::cost_cell` meets its contract: each return is one of the definition's two cases. Assumes nothing.
use mathlib.Core.Path.{◌∙◌}
use Rattle.assoc_cost.proofs.CostLaws.{sure-is, unsure_is}
use Rattle.assoc_cost.proofs.cost.cost_cell.Goals as goal

pub returns-then-params : goal.returns-then-params
returns-then-params c = c.sure_cost.ensures ∙ rw (c.conf_of-conf.ensures, c.confidence_at-trk_conf.ensures, c.confidence_at-det_conf.ensures, c.overlap-iou.ensures) (sure-is _ _ _ _ _ _ c.if-params.true)

pub returns : goal.returns
returns c = c.unsure_cost.ensures ∙ rw c.overlap-iou.ensures (unsure_is _ _ _ _ _ _ c.if-params.false)
