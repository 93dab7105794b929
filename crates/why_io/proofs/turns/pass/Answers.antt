-- `turns::pass` is safe: no more of the work slices is lent than there is. Assumes nothing.
use mathlib.Core.Path.{sym}
use native.Mathlib.Omega.{arith}
use lib.Seq.{length-take-le}
use Rattle.why_io.proofs.turns.pass.Goals as goal

pub slice_bounds-take-end-2 : goal.slice_bounds-take-end-2
slice_bounds-take-end-2 c = sym (length-take-le _ _ (omega (arith, c.min-doubles.ensures)))

pub slice_bounds-take-end-4 : goal.slice_bounds-take-end-4
slice_bounds-take-end-4 c = sym (length-take-le _ _ (omega (arith, c.min-singles.ensures)))

pub overflow_mul-cells : goal.overflow_mul-cells
overflow_mul-cells c = record { fits = omega (arith, c.needed-cells.ensures.doubles.bound) }

pub slice_bounds-take-end : goal.slice_bounds-take-end
slice_bounds-take-end c = omega (arith, c.min-doubles.ensures)

pub slice_bounds-take-end-3 : goal.slice_bounds-take-end-3
slice_bounds-take-end-3 c = omega (arith, c.min-singles.ensures)
