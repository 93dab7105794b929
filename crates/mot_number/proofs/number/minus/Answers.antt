-- `number::minus` meets its contract. Assumes nothing.
use mathlib.Core.Path.{sym, ap}
use Prim.Native.Nat.{ℕ}
use native.Mathlib.Omega.{arith}
use lib.Dec.{eqb}
use lib.ListN.{get_or-eq_default}
use Rattle.mot_number.proofs.number.minus.Goals as goal

pub returns-then-text-eq0 : goal.returns-then-text-eq0
returns-then-text-eq0 c = sym (ap (λ (b : ℕ). eqb b 45) (get_or-eq_default c.args.text.now 0 (omega (arith, c.if-text-eq0.true))))
