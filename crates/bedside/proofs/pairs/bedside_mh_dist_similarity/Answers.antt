-- `bedside::pairs::bedside_mh_dist_similarity` meets its contract. Assumes nothing.
use Rattle.bedside.proofs.PairLaws.{in_c}
use Rattle.bedside.proofs.pairs.bedside_mh_dist_similarity.Goals as goal

pub returns : goal.returns
returns c = in_c _ _ _ _ _ _ _ _ c.number.ensures c.mh_dist_similarity.ensures.answer c.mh_dist_similarity.ensures.cells
