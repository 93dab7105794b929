-- `assignment::push` meets its contract. Assumes nothing.
use mathlib.Core.Path.{refl}
use native.Mathlib.Omega.{arith}
use Rattle.assoc_assignment.proofs.assignment.push.Goals as goal

pub returns-then-marked : goal.returns-then-marked
returns-then-marked c = rw c.if-marked.true (record { many = refl; cells = refl })

pub offset_bounds-out-k : goal.offset_bounds-out-k
offset_bounds-out-k c = omega (arith, c.requires)

pub bounds-out-k : goal.bounds-out-k
bounds-out-k c = omega (arith, c.requires)

pub overflow_add-result : goal.overflow_add-result
overflow_add-result c = omega (arith, c.requires)

pub returns : goal.returns
returns c = rw c.if-marked.false (record { many = refl; cells = refl })
