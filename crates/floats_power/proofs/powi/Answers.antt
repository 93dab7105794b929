-- `floats_power::powi` meets its contract: e is its magnitude, with or without a sign. Assumes nothing.
use Rattle.std.proofs.Common.{◌≡◌, ℕ, true, false, ℤ, pos, sym, ap, ◌∙◌, unsigned_abs, to_z-of_z, w32, SFits}
use lib.Signed.{lt_z}
use lib.Ieee.{Float, binary32, div}
use Rattle.floats.specs.Power.{powers, one, powi}
use Rattle.floats.proofs.Signs.{read, below, above}
use Rattle.floats_power.proofs.powi.Goals as goal

module _ (z : ℤ) (h : SFits w32 z) (c r : Float) (e : r ≡ powers 32 c (unsigned_abs (read w32 z)) one) where
  down : lt_z (read w32 z) (pos 0) ≡ true → div binary32 one r ≡ powi c z
  unfolding powi
  down t =
      let is = (below w32 z h t).1 in
      ap (div binary32 one) (e ∙ ap (λ (x : ℤ). powers 32 c (unsigned_abs x) one) (to_z-of_z h ∙ is)) ∙ ap (powi c) (sym is)

  up : lt_z (read w32 z) (pos 0) ≡ false → r ≡ powi c z
  unfolding powi
  up t =
      let is = (above w32 z h t).1 in
      e ∙ ap (λ (x : ℤ). powers 32 c (unsigned_abs x) one) (to_z-of_z h ∙ is) ∙ ap (powi c) (sym is)

pub returns-then-e-lt0 : goal.returns-then-e-lt0
unfolding one
returns-then-e-lt0 c = down c.args.e c.ranges.e c.args.c c.raised.result (c.raised.ensures ∙ ap (λ (x : ℕ). powers 32 c.args.c x one) c.unsigned_abs.ensures.value) c.if-e-lt0.true

pub returns-else-e-lt0 : goal.returns-else-e-lt0
returns-else-e-lt0 c =
    up c.args.e c.ranges.e c.args.c c.raised-else-e-lt0.result (c.raised-else-e-lt0.ensures ∙ ap (λ (x : ℕ). powers 32 c.args.c x one) c.unsigned_abs-else-e-lt0.ensures.value) c.if-e-lt0.false
