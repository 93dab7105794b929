-- `bedside::pairs::bedside_iou_batch` meets its contract. Assumes nothing.
use Rattle.bedside.proofs.PairLaws.{in_c}
use Rattle.bedside.proofs.pairs.bedside_iou_batch.Goals as goal

pub returns : goal.returns
returns c = in_c _ _ _ _ _ _ _ _ c.number.ensures c.iou_batch.ensures.answer c.iou_batch.ensures.cells
