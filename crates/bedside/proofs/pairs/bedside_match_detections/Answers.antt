-- `bedside::pairs::bedside_match_detections` meets its contract: the answer of the pairing, in C's form. Assumes nothing.
use Rattle.bedside.proofs.PairLaws.{match_in-c}
use Rattle.bedside.proofs.pairs.bedside_match_detections.Goals as goal

pub returns : goal.returns
returns c = match_in-c _ c.from.ensures c.match_detections.ensures
