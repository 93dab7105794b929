-- `ccrt_cols` meets its contract. The invariant: what is left of the definition's columns gives the whole, and the columns left have rows. Assumes nothing.
use Rattle.lapjv_definition.specs.Ccrt.{taken, cols_from}
use Rattle.lapjv_definition.proofs.CcrtLaws.{ColsInv}
use Rattle.lapjv_reduction.proofs.ccrt.ccrt_cols.Given as goal

abbrev pub invariant-loop-j : goal.invariant-loop-j
invariant-loop-j l = ColsInv l.n (cols_from l.n l.n (taken l.initial.x l.initial.y l.initial.unique)) l.j l.x l.y l.unique
