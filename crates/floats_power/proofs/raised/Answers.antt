-- `floats_power::raised` meets its contract. The invariant of its loop: what is left to do gives what the whole gives. Assumes nothing.
use mathlib.Core.Path.{◌≡◌, refl, sym, ap, subst, ◌∙◌}
use mathlib.Core.Bool.{cond}
use Prim.Native.Nat.{ℕ, zero, suc, ◌/◌, ◌%◌, ◌^◌, ◌<◌}
use native.Mathlib.Nat.{div-lt_iff_lt-mul, zero-lt-suc, pow-suc}
use lib.Arith.{lt-one}
use lib.Dec.{eqb}
use borrow.Author.Tests.{eq-eqb, ne_eqb}
use lib.Ieee.{Float, binary32, mul}
use Rattle.floats.specs.Power.{powers, one}
use Rattle.floats_power.proofs.raised.Invariants.{Left}
use Rattle.floats_power.proofs.raised.Goals as goal
use Rattle.floats_power.proofs.raised.Goals.{then-left-eq1, else-left-eq1}

half : (d n : ℕ) → n < 2 ^ suc d → n / 2 < 2 ^ d
half d n h = (div-lt_iff_lt-mul (zero-lt-suc 1)).1 (subst (λ (x : ℕ). n < x) (pow-suc 2 d) h)

turn : (square : Float) (left : ℕ) (r next whole : Float) → (left ≡ 0 → ⊥) → next ≡ cond (eqb (left % 2) 1) (mul binary32 r square) r → Left square left r whole → Left (mul binary32 square square) (left / 2) next whole
unfolding powers
turn square left r next whole some e (zero, h, w) = absurd (some (lt-one h))
turn square left r next whole some e (suc d, h, w) = (d, half d left h, ap (λ (x : Float). powers d (mul binary32 square square) (left / 2) x) e ∙ w)

set-bit : (n : ℕ) (next with without : Float) → n % 2 ≡ 1 → next ≡ with → next ≡ cond (eqb (n % 2) 1) with without
set-bit n next with without h e = cc (eq-eqb (n % 2) 1 h)

clear-bit : (n : ℕ) (next with without : Float) → (n % 2 ≡ 1 → ⊥) → next ≡ without → next ≡ cond (eqb (n % 2) 1) with without
clear-bit n next with without h e = cc (ne_eqb (n % 2) 1 h)

-- no bits are left
idle : (d : ℕ) (square r : Float) → powers d square 0 r ≡ r
unfolding powers
idle zero square r = refl
idle (suc d) square r = idle d (mul binary32 square square) r

done : (square : Float) (left : ℕ) (r whole : Float) → left ≡ 0 → Left square left r whole → r ≡ whole
done square left r whole e (d, h, w) = sym (idle d square r) ∙ ap (λ (x : ℕ). powers d square x r) (sym e) ∙ w

pub loop-left-init : goal.loop-left-init
unfolding one
loop-left-init c = (32, c.ranges.n.fits, refl)

pub loop-left-preserved : goal.loop-left-preserved
loop-left-preserved c =
    let l = c.loop-left in
    turn l.square l.left l.r c.if-left-eq1.r _ c.loop-left-test.true
    (elim c.if-left-eq1.branch [ then-left-eq1 w ↦ set-bit l.left _ _ _ w.if-left-eq1.true w.r-is | else-left-eq1 w ↦ clear-bit l.left _ _ _ w.if-left-eq1.false w.r-is ]) l.invariant

pub returns : goal.returns
returns c = let l = c.loop-left in done l.square l.left l.r _ c.loop-left-test.false l.invariant
