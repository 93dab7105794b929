-- `bedside::pairs::bedside_shape_similarity_v1` meets its contract. Assumes nothing.
use Rattle.bedside.proofs.PairLaws.{in_c}
use Rattle.bedside.proofs.pairs.bedside_shape_similarity_v1.Goals as goal

pub returns : goal.returns
returns c = in_c _ _ _ _ _ _ _ _ c.number.ensures c.shape_similarity_v1.ensures.answer c.shape_similarity_v1.ensures.cells
