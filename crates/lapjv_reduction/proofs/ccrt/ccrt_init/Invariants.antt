-- `ccrt_init` meets its contract. The invariant: the first i entries of each list are stored. Assumes nothing.
use Rattle.laws.specs.Tab.{Filling}
use Rattle.lapjv_definition.specs.Cost.{large}
use Rattle.lapjv_reduction.proofs.ccrt.ccrt_init.Given as goal

abbrev pub invariant-loop-i : goal.invariant-loop-i
invariant-loop-i l = Filling (λ i. l.n) l.initial.x l.n l.i l.x × Filling (λ i. 0) l.initial.y l.n l.i l.y × Filling (λ i. large) l.initial.v l.n l.i l.v
