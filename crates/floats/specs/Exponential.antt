-- Document 01, "Float functions", `exp` of a, with the document's letters: Q, L, q, r, t and S.
use Rattle.std.specs.Prelude.{ℕ, zero, suc, ◌+◌, ◌-◌, ◌*◌, ◌/◌, ◌%◌, ◌^◌, Bool, false, cond, ℤ, pos, negsuc, ◌-ℤ◌, neg_ℤ, is_nan, Float}
use Rattle.std.specs.Float.{nan, inf, fin, binary32}
use Rattle.std.specs.Float.Ieee.{up, down, le, of_int, round}

-- z divided by d, rounding down also below zero, and the remainder, from 0 to d - 1. `negsuc n` is -(n + 1).
abbrev pub quotient : ℤ → ℕ → ℤ
quotient (pos n) d = pos (n / d)
quotient (negsuc n) d = negsuc (n / d)

abbrev pub remainder : ℤ → ℕ → ℕ
remainder (pos n) d = n % d
remainder (negsuc n) d = d - suc (n % d)

-- n, or -n where the sign says so
abbrev pub signed : Bool → ℕ → ℤ
signed negative n = cond negative (neg_ℤ (pos n)) (pos n)

-- Q is a × 2^30 rounded down, for a = ±m × 2^e; 2^e is the fraction up e / down e
abbrev pub Q : Bool → ℕ → ℤ → ℤ
Q negative m e = quotient (signed negative (m * up e * 2 ^ 30)) (down e)

abbrev pub L : ℕ
L = 744261118

-- t0 = 2^30, and t(k) = t(k - 1) × r divided by (k × 2^30), rounded down
unfoldable pub t : ℕ → ℕ → ℕ
t r zero = 2 ^ 30
t r (suc k) = t r k * r / (suc k * 2 ^ 30)

-- t0 + t1 + .. + t(n)
unfoldable pub S : ℕ → ℕ → ℕ
unfolding t
S r zero = t r 0
S r (suc n) = S r n + t r (suc n)

-- s × 2^z to the nearest f32, ties to even, small results with fewer bits, and infinity where IEEE 754 rounding overflows: the library's `round` of the fraction s × up z / down z
abbrev pub to_nearest : ℕ → ℤ → Float
to_nearest s z = round binary32 false (s * up z) (down z)

-- the quotient of Q by L is q and the remainder r, S is the sum t0 to t12, and the result S × 2^(q - 30)
unfoldable pub of_q : ℤ → Float
unfolding S
of_q z = to_nearest (S (remainder z L) 12) (quotient z L -ℤ pos 30)

-- a that is neither a NaN nor an infinity
unfoldable pub of_finite : Float → Float
unfolding of_q
of_finite nan = nan
of_finite (inf s) = nan
of_finite (fin s m e) = of_q (Q s m e)

-- not-a-number stays; a ≥ 89 gives infinity; a ≤ -104 gives 0; what is left is finite. `of_int binary32 (negsuc 103)` is -104.
unfoldable pub exp : Float → Float
unfolding of_finite
exp a = cond (is_nan a) a (cond (le (of_int binary32 (pos 89)) a) (inf false) (cond (le a (of_int binary32 (negsuc 103))) (fin false 0 (pos 0)) (of_finite a)))
