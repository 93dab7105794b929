-- `find_dense` meets its contract. The invariant: what is left of the definition's passes gives the whole, and hi is at most k. Assumes nothing.
use Prim.Native.Nat.{◌-◌}
use Rattle.lapjv_definition.specs.Find.{finding, find_from}
use Rattle.lapjv_definition.proofs.FindLaws.{FindInv}
use Rattle.lapjv_augmentation.proofs.find.find_dense.Given as goal

abbrev pub invariant-loop-k : goal.invariant-loop-k
invariant-loop-k l = FindInv l.n l.lo l.d (find_from l.d l.lo (l.n - l.initial.k) l.initial.k (finding l.initial.hi l.initial.mind l.initial.cols)) l.cols l.hi l.mind l.k
