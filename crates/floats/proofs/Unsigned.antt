-- `exp` is never below zero: what it rounds has no sign. Assumes nothing.
use Rattle.std.proofs.Common.{◌≡◌, ℕ, zero, suc, ◌*◌, ◌^◌, Bool, true, false, cond, ltb, ℤ, pos, negsuc, sym, refl, true≢false, zero-mul, arith, le-ltb}
use lib.Ieee.{Float, nan, inf, fin, binary32, up, down, odd, units, of_bits, lt, le, is_nan, of_int}
use lib.Ieee.Fits.{round_is}
use Rattle.floats.specs.Exponential.{Q, of_q, of_finite, exp}

-- what has no sign is not below zero
unsigned : (m : ℕ) (e : ℤ) → lt (fin false m e) (of_bits binary32 0) ≡ false
unfolding lt of_bits
unsigned m e = let z : 0 * down e ≡ 0 = zero-mul (down e) in le-ltb (m * up e * 1) (0 * down e) (omega arith)

unsigned_odd : (d q k l : ℕ) → lt (odd d false q k l) (of_bits binary32 0) ≡ false
unfolding odd
unsigned_odd d zero k l = unsigned 0 (pos 0)
unsigned_odd d (suc q) k l = unsigned _ _

unsigned_units : (q k : ℕ) → lt (units binary32 false q k) (of_bits binary32 0) ≡ false
unfolding units lt of_bits
unsigned_units q k = by_test (ltb (q * 2 ^ k) (2 ^ 277))
  where
    by_test : (b : Bool) → lt (cond b (odd 25 false q k 149) (inf false)) (of_bits binary32 0) ≡ false
    by_test true = unsigned_odd 25 q k 149
    by_test false = refl

unsigned_rounded : (z : ℤ) → lt (of_q z) (of_bits binary32 0) ≡ false
unfolding of_q
unsigned_rounded z = rw round_is (unsigned_units _ _)

finite_not_below : (a : Float) → lt (of_finite a) (of_bits binary32 0) ≡ false
unfolding of_finite lt
finite_not_below nan = refl
finite_not_below (inf s) = refl
finite_not_below (fin s m e) = unsigned_rounded (Q s m e)

nan_not_below : (a : Float) → is_nan a ≡ true → lt a (of_bits binary32 0) ≡ false
unfolding is_nan lt
nan_not_below nan e = refl
nan_not_below (inf s) e = absurd (true≢false (sym e))
nan_not_below (fin s m e) h = absurd (true≢false (sym h))

pub exp_not_below : (a : Float) → lt (exp a) (of_bits binary32 0) ≡ false
unfolding exp lt of_bits
exp_not_below a = by_tests (is_nan a) (le (of_int binary32 (pos 89)) a) (le a (of_int binary32 (negsuc 103))) (nan_not_below a)
  where
    by_tests : (n h l : Bool) → (n ≡ true → lt a (of_bits binary32 0) ≡ false) → lt (cond n a (cond h (inf false) (cond l (fin false 0 (pos 0)) (of_finite a)))) (of_bits binary32 0) ≡ false
    by_tests true h l e = e refl
    by_tests false true l e = refl
    by_tests false false true e = unsigned 0 (pos 0)
    by_tests false false false e = finite_not_below a
