-- `fraction::nearest` meets its contract: the remainder decides. Assumes nothing.
use mathlib.Core.Path.{ap, ◌∙◌}
use Prim.Native.Nat.{ℕ, ◌+◌, ◌*◌, ◌/◌, ◌<◌, ◌≤◌}
use native.Mathlib.Nat.{mod-lt, le_trans, mul-le-mul_left, div-mul-le_self}
use native.Mathlib.Omega.{arith}
use Rattle.mot_number.proofs.Quotient.{bool_is, one_most, rounds_up}
use Rattle.mot_number.proofs.fraction.nearest.Goals as goal

-- a quotient by 2 or more leaves room for one more
half : (n u : ℕ) → 1 < u → n / u * 2 ≤ n
half n u h = le_trans (mul-le-mul_left (n / u) h) (div-mul-le_self n u)

pub overflow_mul-n : goal.overflow_mul-n
overflow_mul-n c = record { fits = omega (arith, c.requires.fact_2, mod-lt c.args.n {m = c.args.unit} (omega (arith, c.requires.fact_1))) }

pub overflow_add-n : goal.overflow_add-n
overflow_add-n c = record { fits = omega (arith, c.requires.fact_2, mod-lt c.args.n {m = c.args.unit} (omega (arith, c.requires.fact_1))) }

pub overflow_add-result : goal.overflow_add-result
overflow_add-result c = record { fits = omega (arith, half c.args.n c.args.unit c.requires.fact_1, one_most _ _ c.from.ensures, c.ranges.n.fits) }

pub returns : goal.returns
returns c = ap (λ (x : ℕ). c.args.n / c.args.unit + x) (c.from.ensures ∙ bool_is _) ∙ rounds_up c.args.n c.args.unit
