-- Which bit patterns are a NaN's, by the tests that the code makes: `x != x`, and a comparison with the pattern of an infinity. Assumes nothing.
use mathlib.Core.Path.{◌≡◌, refl, sym, ap, subst, ◌∙◌}
use mathlib.Core.Bool.{Bool, true, false, not, true≢false}
use Prim.Native.Nat.{ℕ, ◌*◌, ◌%◌, ◌^◌, ◌≤◌, ◌<◌}
use lib.Dec.{T}
use lib.Ieee.{Float, Format, nan, inf, fin, binary32, ne, is_nan, div, of_bits, to_bits, nan_bits}
use lib.Ieee.Bits.{nan_bits_above, nan_bits_is}
use lib.Ieee.Compare.{differs_from_itself}
use borrow.Author.Tests.{lt-ltb, le-ltb}
use Rattle.vectors_digest.specs.Floats.{float}

-- the tests of x
pub number : (x : Float) → ne x x ≡ false → T (not (is_nan x))
unfolding ne is_nan
number nan e = absurd (true≢false e)
number (inf s) e = tt
number (fin s m k) e = tt

pub bits_of_nan : (f : Format) (x : Float) → ne x x ≡ true → to_bits f nan ≡ to_bits f x
bits_of_nan f x e = ap (to_bits f) (sym (differs_from_itself x (subst T (sym e) tt)))

-- the tests of a pattern
pub no_nan : (n : ℕ) → n % 2 ^ 31 ≤ 255 * 2 ^ 23 → T (not (nan_bits binary32 n))
no_nan n h = subst (λ (b : Bool). T (not b)) (sym (nan_bits_above binary32 n ∙ le-ltb (255 * 2 ^ 23) (n % 2 ^ 31) h)) tt

is_nan_lem : (x : Float) → is_nan x ≡ true → nan ≡ x
unfolding is_nan
is_nan_lem nan e = refl
is_nan_lem (inf s) e = absurd (true≢false (sym e))
is_nan_lem (fin s m k) e = absurd (true≢false (sym e))

pub nan_float : (n : ℕ) → 255 * 2 ^ 23 < n % 2 ^ 31 → div binary32 (of_bits binary32 0) (of_bits binary32 0) ≡ float n
unfolding div of_bits
nan_float n h = is_nan_lem (float n) (sym (nan_bits_is binary32 n) ∙ nan_bits_above binary32 n ∙ lt-ltb (255 * 2 ^ 23) (n % 2 ^ 31) h)
