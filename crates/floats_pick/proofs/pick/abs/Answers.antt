-- `floats_pick::pick::abs` meets its contract: the bits below the sign's are the fields of the magnitude. Assumes nothing.
use mathlib.Core.Path.{◌≡◌, refl, sym, ap, subst, ◌∙◌}
use mathlib.Core.Bool.{Bool, true, false, not, cond, true≢false}
use Prim.Native.Nat.{ℕ, zero, suc, ◌+◌, ◌/◌, ◌%◌, ◌^◌, ◌<◌}
use native.Mathlib.Nat.{mod-lt}
use native.Mathlib.Omega.{arith}
use lib.Dec.{T, leb, eqb, lit<}
use borrow.Author.Tests.{lt-leb}
use lib.Ieee.{Float, nan, inf, fin, binary32, fits, is_nan, odd, of_fields, of_bits, to_bits}
use lib.Ieee.Bits.{of_bits-to_bits, nan_bits_is}
use Rattle.floats_pick.specs.Pick.{abs}
use Rattle.floats_pick.proofs.pick.abs.Goals as goal

of_nan : (x : Float) → is_nan x ≡ true → x ≡ abs x
unfolding is_nan abs
of_nan nan h = refl
of_nan (inf s) h = absurd (true≢false (sym h))
of_nan (fin s m e) h = absurd (true≢false (sym h))

odd-abs : (d : ℕ) (s : Bool) (q k l : ℕ) → abs (odd d s q k l) ≡ odd d false q k l
unfolding abs odd
odd-abs d s zero k l = refl
odd-abs d s (suc q) k l = refl

-- the sign of the fields is the sign of the value
fields-abs : (s : Bool) (x t : ℕ) → abs (of_fields binary32 s x t) ≡ of_fields binary32 false x t
unfolding of_fields abs
fields-abs s zero t = odd-abs 24 s t 0 149
fields-abs s (suc x) t = special (eqb (suc x) 255) (eqb t 0)
  where
    special : (ones none : Bool) → abs (cond ones (cond none (inf s) nan) (odd 24 s (2 ^ 23 + t) x 149)) ≡ cond ones (cond none (inf false) nan) (odd 24 false (2 ^ 23 + t) x 149)
    special true true = refl
    special true false = refl
    special false none = odd-abs 24 s (2 ^ 23 + t) x 149

-- a pattern without its highest bit has the same fields and no sign
cleared : (b : ℕ) → of_bits binary32 (b % 2 ^ 31) ≡ of_fields binary32 false (b % 2 ^ 31 / 2 ^ 23) (b % 2 ^ 23)
unfolding of_bits
cleared b =
    let h : b % 2 ^ 31 < 2 ^ 31 = mod-lt b (lit< tt) in
    let e : b % 2 ^ 31 % 2 ^ 31 ≡ b % 2 ^ 31 = omega arith in
    let f : b % 2 ^ 31 % 2 ^ 23 ≡ b % 2 ^ 23 = omega arith in
    ap (λ (s : Bool). of_fields binary32 s (b % 2 ^ 31 % 2 ^ 31 / 2 ^ 23) (b % 2 ^ 31 % 2 ^ 23)) (lt-leb (2 ^ 31) (b % 2 ^ 31) h)
    ∙ ap (λ (x : ℕ). of_fields binary32 false (x / 2 ^ 23) (b % 2 ^ 31 % 2 ^ 23)) e ∙ ap (λ (x : ℕ). of_fields binary32 false (b % 2 ^ 31 / 2 ^ 23) x) f

magnitude : (x : Float) → T (fits binary32 x) → of_bits binary32 (to_bits binary32 x % 2 ^ 31) ≡ abs x
unfolding of_bits
magnitude x h =
    let b = to_bits binary32 x in
    cleared b ∙ sym (fields-abs (leb (2 ^ 31) b) (b % 2 ^ 31 / 2 ^ 23) (b % 2 ^ 23)) ∙ ap abs (of_bits-to_bits binary32 x h)

abs-number : (x : Float) → is_nan (abs x) ≡ is_nan x
unfolding is_nan abs
abs-number nan = refl
abs-number (inf s) = refl
abs-number (fin s m e) = refl

number : (x : Float) → is_nan x ≡ false → T (not (is_nan x))
number x h = subst (λ (b : Bool). T (not b)) (sym h) tt

pub returns-then-is_nan : goal.returns-then-is_nan
returns-then-is_nan c = of_nan c.args.x (sym c.is_nan.ensures.value ∙ c.if-is_nan.true)

pub float_from_bits-result : goal.float_from_bits-result
float_from_bits-result c =
    let x = c.args.x in
    subst (λ (b : Bool). T (not b)) (sym (nan_bits_is binary32 (to_bits binary32 x % 2 ^ 31) ∙ ap is_nan (magnitude x (subst T (sym c.well_formed.0.1) tt)) ∙ abs-number x)) (number x (sym c.is_nan.ensures.value ∙ c.if-is_nan.false))

pub returns : goal.returns
returns c = magnitude c.args.x (subst T (sym c.well_formed.0.1) tt)
