-- `lines::shift` meets its contract: so many bytes have come to the front, and those behind them are as they were. Assumes nothing.
use Prim.Native.Nat.{◌-◌}
use native.Mathlib.Omega.{arith}
use Rattle.motbox_io.proofs.Buffers.{none-moved, one_more, all_moved}
use Rattle.motbox_io.proofs.lines.shift.Goals as goal

pub loop-i-init : goal.loop-i-init
loop-i-init c = none-moved c.args.input.now c.args.next (c.args.got - c.args.next)

pub overflow_add-input : goal.overflow_add-input
overflow_add-input c = record { fits = omega (arith, c.loop-i-test.true, c.requires.fact_1, c.ranges.got.fits) }

pub bounds-input-next : goal.bounds-input-next
bounds-input-next c = omega (arith, c.loop-i-test.true, c.requires.fact_1, c.requires.fact_2, c.loop-i.invariant.size)

pub bounds-input-i : goal.bounds-input-i
bounds-input-i c = omega (arith, c.loop-i-test.true, c.requires.fact_1, c.requires.fact_2, c.loop-i.invariant.size)

pub loop-i-preserved : goal.loop-i-preserved
loop-i-preserved c = one_more c.loop-i.invariant c.loop-i-test.true (omega (arith, c.requires.fact_1, c.requires.fact_2))

pub shape_of-input : goal.shape_of-input
shape_of-input c = c.loop-i.invariant.size

pub returns : goal.returns
returns c = all_moved c.loop-i.invariant c.loop-i-test.false
