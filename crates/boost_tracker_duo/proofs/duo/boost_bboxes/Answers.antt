-- The answers of `duo::boost_bboxes`: it meets its contract. Its invariant is in Invariants.antt. Assumes nothing.
use mathlib.Core.Path.{refl}
use native.Mathlib.Omega.{arith}
use Rattle.std.proofs.Common.{zero-mul}
use Rattle.laws.specs.Grid.{row_next, rows_on, rows_start}
use Rattle.boost_tracker_duo.proofs.duo.boost_bboxes.Goals as goal

pub loop-i-preserved : goal.loop-i-preserved
loop-i-preserved c = rw (row_next _ 4) (rows_on c.loop-i.invariant c.loop-i-test.true (λ k. refl) c.copy_box.ensures)

pub loop-i-init : goal.loop-i-init
loop-i-init c = rw (zero-mul 4) (rows_start (omega (arith, c.requires.1)))
