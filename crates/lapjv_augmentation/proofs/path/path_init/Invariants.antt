-- `path_init` meets its contract. The invariant: the first i entries of each list are stored. Assumes nothing.
use lib.ListN.{get_or}
use lib.Ieee.{nan}
use Rattle.laws.specs.Tab.{Filling}
use Rattle.lapjv_definition.specs.Cost.{at, ◌⊖◌}
use Rattle.lapjv_augmentation.proofs.path.path_init.Given as goal

abbrev pub invariant-loop-i : goal.invariant-loop-i
invariant-loop-i l = Filling (λ k. at l.costs.cells.now l.costs.side l.start_i k ⊖ get_or l.v k nan) l.initial.d l.costs.side l.i l.d × Filling (λ k. k) l.initial.cols l.costs.side l.i l.cols × Filling (λ k. l.start_i) l.initial.pred l.costs.side l.i l.pred
