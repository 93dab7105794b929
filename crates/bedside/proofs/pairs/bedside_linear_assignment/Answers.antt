-- `bedside::pairs::bedside_linear_assignment` meets its contract: the answer of the pairing, in C's form. Assumes nothing.
use Rattle.bedside.proofs.PairLaws.{assignment-in-c}
use Rattle.bedside.proofs.pairs.bedside_linear_assignment.Goals as goal

pub returns : goal.returns
returns c = let call = c.linear_assignment in assignment-in-c call.result _ c.from.ensures call.ensures
