-- `bedside::pairs::bedside_soft_biou_batch` meets its contract. Assumes nothing.
use Rattle.bedside.proofs.PairLaws.{in_c}
use Rattle.bedside.proofs.pairs.bedside_soft_biou_batch.Goals as goal

pub returns : goal.returns
returns c = in_c _ _ _ _ _ _ _ _ c.number.ensures c.soft_biou_batch.ensures.answer c.soft_biou_batch.ensures.cells
