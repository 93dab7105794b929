-- Document 01, "Float functions", root: f32 to nearest, ties to even (IEEE 754); below zero gives not-a-number. The root of a zero is that zero, as IEEE 754 has it.
-- Everything is counted in whole numbers. A unit is the smallest f32, 2^-149. A finite f32 `fin s m e` is m × 2^e, and 2^e is the fraction `up e / down e`.
-- `Laws.NearestRoot` says what the number found is.
use Rattle.std.specs.Prelude.{ℕ, zero, suc, ◌+◌, ◌-◌, ◌*◌, ◌/◌, ◌^◌, true, false, cond, ℤ, nat_le, Float}
use Prim.Native.Nat.{compare}
use Rattle.std.specs.Float.{nan, inf, fin, binary32}
use Rattle.std.specs.Float.Ieee.{up, down, size, nearest, units}

-- the whole part of the root of an n below 4^d, one binary digit after the other
unfoldable pub whole_root : ℕ → ℕ → ℕ
whole_root zero n = 0
whole_root (suc d) n = let r = 2 * whole_root d (n / 4) in cond (nat_le (suc r * suc r) n) (suc r) r

-- The root of n squares of the unit, as the nearest f32. It is as many units as the root of n. `size n` is how many binary digits n has, so that the root has (size n + 1) / 2.
-- An f32 keeps 24 of them, so k are dropped, and q is what the kept ones say. The root lies from q to below q + 1, times 2^k.
-- The middle between these two, q + 1/2, is compared with the root by squares, both doubled: 4 × n with (2 × q + 1)^2 × 4^k.
-- `nearest` picks q below the middle, q + 1 above it, and on it the even one of the two. `units binary32 false q k` is the f32 of q × 2^k units, an infinity from 2^128 on.
unfoldable pub root_of_squares : ℕ → Float
unfolding whole_root size units
root_of_squares n =
    let k = (size n + 1) / 2 - 24 in
    let q = whole_root 24 (n / 2 ^ (2 * k)) in
    units binary32 false (nearest q (compare (4 * n) ((2 * q + 1) * (2 * q + 1) * 2 ^ (2 * k)))) k

-- the square of the unit is 2^-298, so x = m × 2^e is m × 2^e × 2^298 of them, a whole number for each f32
abbrev pub squares : ℕ → ℤ → ℕ
squares m e = m * up e * 2 ^ 298 / down e

unfoldable pub root : Float → Float
unfolding root_of_squares
root nan = nan
root (inf s) = cond s nan (inf false)
root (fin s zero e) = fin s zero e
root (fin true (suc m) e) = nan
root (fin false (suc m) e) = root_of_squares (squares (suc m) e)
