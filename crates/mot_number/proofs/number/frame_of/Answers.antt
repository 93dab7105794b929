-- `number::frame_of` meets its contract: the digits decide. Assumes nothing.
use mathlib.Core.Path.{subst, sym, ◌∙◌}
use Prim.Native.Nat.{ℕ, ◌<◌}
use native.Mathlib.Omega.{arith}
use Rattle.mot_number.proofs.Returns.{not_six, six, six_small, no-frame, a-frame}
use Rattle.mot_number.proofs.number.frame_of.Goals as goal

pub returns-in_err-value : goal.returns-in_err-value
returns-in_err-value c = c.from_residual.ensures ∙ no-frame c.args.text.now (not_six 0 c.args.text.now c.digits_of.result c.digits_of.ensures c.in_err-value.was)

pub overflow_cast-result : goal.overflow_cast-result
overflow_cast-result c =
    let t = c.args.text.now in
    let w = c.in_ok-value.value in
    let r = six 0 t c.digits_of.result c.digits_of.ensures w c.in_ok-value.was in
    record { fits = omega (arith, subst (λ (x : ℕ). x < 1000000) (sym r.1) (six_small t r.0)) }

pub returns : goal.returns
returns c =
    let t = c.args.text.now in
    let w = c.in_ok-value.value in
    a-frame t w (six 0 t c.digits_of.result c.digits_of.ensures w c.in_ok-value.was)
