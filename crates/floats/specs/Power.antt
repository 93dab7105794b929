-- Document 01, "Float functions", `powi` and `powf(1.5)`.
use Rattle.std.specs.Prelude.{◌≡◌, ℕ, zero, suc, ◌/◌, ◌%◌, cond, ℤ, pos, negsuc, ◌==◌, refl, Float}
use Rattle.std.specs.Float.{binary32}
use Rattle.std.specs.Float.Ieee.{of_bits, of_int, mul, div}
use Rattle.floats.specs.Root.{root}

unfoldable pub one : Float
one = of_bits binary32 0x3f80_0000

one-is : one ≡ of_int binary32 (pos 1)
unfolding one of_bits of_int
one-is = refl

-- `powi` of c by e: multiply by the bits of |e| from the lowest, squaring c between them. Here r is what has been multiplied, and n has the bits that are left, d at most.
unfoldable pub powers : ℕ → Float → ℕ → Float → Float
powers zero c n r = r
powers (suc d) c n r = powers d (mul binary32 c c) (n / 2) (cond (n % 2 == 1) (mul binary32 r c) r)

-- for negative e, one divided by that; `negsuc n` is -(n + 1)
unfoldable pub powi : Float → ℤ → Float
unfolding powers one
powi c (pos n) = powers 32 c n one
powi c (negsuc n) = div binary32 one (powers 32 c (suc n) one)

-- `powf(1.5)` of m: m × root of m
unfoldable pub powf15 : Float → Float
unfolding root
powf15 m = mul binary32 m (root m)
