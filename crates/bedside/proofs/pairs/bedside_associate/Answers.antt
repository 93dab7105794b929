-- `bedside::pairs::bedside_associate` meets its contract: the answer of the pairing, in C's form. Assumes nothing.
use Rattle.bedside.proofs.PairLaws.{assignment-in-c}
use Rattle.bedside.proofs.pairs.bedside_associate.Goals as goal

pub returns : goal.returns
returns c = let call = c.associate in assignment-in-c call.result _ c.from.ensures call.ensures
