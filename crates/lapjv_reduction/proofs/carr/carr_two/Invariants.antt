-- `carr_two` meets its contract. The invariant: what is left of the definition's passes gives the whole. Assumes nothing.
use Prim.Native.Nat.{◌-◌}
use Rattle.lapjv_definition.specs.Carr.{two_from}
use Rattle.lapjv_definition.proofs.CarrLaws.{TwoInv}
use Rattle.lapjv_reduction.proofs.carr.carr_two.Given as goal

abbrev pub invariant-loop-j : goal.invariant-loop-j
invariant-loop-j l = TwoInv l.costs.side l.costs.cells.now l.i l.v (two_from l.costs.side l.costs.cells.now l.i l.v (l.costs.side - l.initial.j) l.initial.j l.initial.t) l.j l.t
