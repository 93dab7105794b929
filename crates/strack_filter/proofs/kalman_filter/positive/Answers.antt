-- `kalman_filter::positive` meets its contract. Assumes nothing.
use Rattle.std.proofs.Common.{◌≡◌, ℕ, zero, suc, ◌*◌, ◌<◌, ◌&&◌, ltb, true, false, ℤ, sym, refl, ap, ◌∙◌, mul-pos, zero-mul, mul-one, arith, lt-ltb}
use mathlib.Core.Bool.{and-true}
use lib.Ieee.{Float, nan, inf, fin, binary32, of_bits, lt, up, down}
use lib.Ieee.Fits.{up_pos}
use lib.Ieee.Positive.{positive}
use Rattle.std.specs.Float.{float_is_finite}
use Rattle.strack_filter.proofs.kalman_filter.positive.Goals as goal

-- a factor above zero does not change whether a number is above zero
ltb-scaled : (m u : ℕ) → 0 < u → ltb 0 (m * u) ≡ ltb 0 m
ltb-scaled zero u U = ap (ltb 0) (zero-mul u)
ltb-scaled (suc m) u U = lt-ltb 0 (suc m * u) (mul-pos (omega arith) U) ∙ sym (lt-ltb 0 (suc m) (omega arith))

above_zero : (m : ℕ) (e : ℤ) → lt (of_bits binary32 0) (fin false m e) ≡ ltb 0 m
unfolding lt of_bits
above_zero m e = rw (zero-mul (down e), mul-one (m * up e)) (ltb-scaled m (up e) (up_pos e))

test : (s : Float) → lt (of_bits binary32 0) s && float_is_finite s ≡ positive s
unfolding float_is_finite lt of_bits
test nan = refl
test (inf true) = refl
test (inf false) = refl
test (fin true m e) = refl
test (fin false m e) = rw (above_zero m e) (and-true (ltb 0 m))

pub returns : goal.returns
returns c = cc (c.is_finite.ensures.value, test c.args.s)
