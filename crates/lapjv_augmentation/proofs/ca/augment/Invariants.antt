-- `augment` meets its contract. The invariant: what is left of the definition's path gives the whole, and it ends within the passes left (`Holed`), so that the loop never runs to its end. Assumes nothing.
use Rattle.lapjv_definition.specs.Ca.{augment_from}
use Rattle.lapjv_definition.proofs.AugmentLaws.{AugInv}
use Rattle.lapjv_augmentation.proofs.ca.augment.Given as goal

abbrev pub invariant-loop-k : goal.invariant-loop-k
invariant-loop-k l = AugInv l.n l.free_row l.pred (augment_from l.n l.pred l.free_row l.n l.n l.j0 l.initial.x l.initial.y) l.k l.j l.x l.y
