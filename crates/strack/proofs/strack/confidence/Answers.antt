-- `strack::confidence` meets its contract: the exponent fits an i32, so that it is handed on as it is. Assumes nothing.
use Rattle.std.proofs.Common.{◌≡◌, ℕ, ◌-◌, ◌%◌, ◌^◌, Bool, true, false, cond, ltb, ℤ, pos, negsuc, refl, ap, ◌∙◌, arith, to_z-of_z, w32, SFits, to_z, of_z, ltb-false, ltb-true}
use Rattle.floats.specs.Power.{powi}
use Rattle.strack.specs.Strack.{as_i32, confidence}
use Rattle.strack.proofs.strack.confidence.Goals as goal

as-i32-fits : (n : ℕ) → SFits w32 (as_i32 n)
unfolding as_i32
as-i32-fits n = go (ltb (n % 2 ^ 32) (2 ^ 31)) refl
  where
    go : (b : Bool) → ltb (n % 2 ^ 32) (2 ^ 31) ≡ b → SFits w32 (cond b (pos (n % 2 ^ 32)) (negsuc (2 ^ 32 - 1 - n % 2 ^ 32)))
    go true t = record { sfits = ltb-true (n % 2 ^ 32) (2 ^ 31) t }
    go false t = record { sfits = omega (arith, ltb-false (n % 2 ^ 32) (2 ^ 31) t) }

handed-on : (z : ℤ) (n : ℕ) → z ≡ as_i32 n → to_z w32 (of_z w32 z) ≡ as_i32 n
handed-on z n e = ap (λ (x : ℤ). to_z w32 (of_z w32 x)) e ∙ to_z-of_z (as-i32-fits n)

pub returns : goal.returns
unfolding confidence
returns c =
    c.powi.ensures ∙ ap (powi c.args.coef) (handed-on c.as_i32.result c.exponent.result c.as_i32.ensures ∙ ap as_i32 c.exponent.ensures)
