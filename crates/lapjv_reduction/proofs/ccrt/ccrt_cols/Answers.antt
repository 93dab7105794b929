-- `ccrt_cols` meets its contract. The invariant: what is left of the definition's columns gives the whole, and the columns left have rows; the measure is j. Assumes nothing.
use mathlib.Core.Path.{◌∙◌}
use Prim.Native.Nat.{◌-◌}
use native.Mathlib.Omega.{arith}
use Rattle.lapjv_definition.proofs.CcrtLaws.{cols_again, cols-done}
use Rattle.lapjv_definition.proofs.EntryLaws.{row_is}
use Rattle.lapjv_reduction.proofs.ccrt.ccrt_cols.Goals as goal

pub col_step-requires : goal.col_step-requires
col_step-requires c =
    let l = c.loop-j in
    let h = c.loop-j-test.true in
    let w = l.invariant.rows (l.j - 1) (omega arith) in
    let e = c.row_of.ensures ∙ row_is _ _ w in
    (omega (arith, e, w, l.invariant.len_x), omega (arith, l.invariant.len_y, l.invariant.to), omega (arith, e, w, l.invariant.len_u))

pub loop-j-preserved : goal.loop-j-preserved
loop-j-preserved c =
    cols_again c.loop-j.invariant c.loop-j-test.true (rw c.row_of.ensures at c.col_step.ensures) c.col_step.auto.x c.col_step.auto.y c.col_step.auto.unique

pub returns : goal.returns
returns c = cols-done c.loop-j.invariant c.loop-j-test.false
