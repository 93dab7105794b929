-- `carr_dence` meets its contract. The invariant: what is left of the definition's turns gives the whole, and the turns so far are few (`CarrOk`). Assumes nothing.
use Prim.Native.Nat.{◌-◌, ◌*◌}
use Rattle.lapjv_definition.specs.Carr.{carrying, carr_dence}
use Rattle.lapjv_definition.proofs.CarrLaws.{CarrInv}
use Rattle.lapjv_reduction.proofs.carr.carr_dence.Given as goal

abbrev pub invariant-loop-s : goal.invariant-loop-s
invariant-loop-s l = CarrInv l.costs.side l.costs.cells.now l.n_free_rows (carr_dence l.costs.side l.costs.cells.now l.n_free_rows l.initial.free_rows l.initial.x l.initial.y l.initial.v) (carrying l.s.current l.s.new_free_rows l.s.rr_cnt l.free_rows l.x l.y l.v)

abbrev pub decreases-loop-s : goal.decreases-loop-s
decreases-loop-s l = l.n_free_rows * l.costs.side - l.s.rr_cnt
