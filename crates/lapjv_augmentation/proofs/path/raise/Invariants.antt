-- `raise` meets its contract. The invariant: what is left of the definition's passes gives the whole. Assumes nothing.
use Rattle.lapjv_definition.specs.Path.{raise_from}
use Rattle.lapjv_definition.proofs.PathLaws.{RaiseInv}
use Rattle.lapjv_augmentation.proofs.path.raise.Given as goal

abbrev pub invariant-loop-k : goal.invariant-loop-k
invariant-loop-k l = RaiseInv l.cols l.d l.mind (raise_from l.cols l.d l.mind l.n_ready 0 l.initial.v) l.n l.n_ready l.k l.v
