-- `floats::exponential::right` meets its contract. Assumes nothing.
use Rattle.std.proofs.Common.{◌≡◌, ℕ, ◌/◌, ◌^◌, ◌<◌, ◌≤◌, sym, lt_of_lt_of_le, arith, pow_mono}
use native.Mathlib.Nat.{div-eq_of_lt}
use Rattle.floats.proofs.exponential.right.Goals as goal

gone : (n k : ℕ) → n < 2 ^ 63 → 64 ≤ k → 0 ≡ n / 2 ^ k
gone n k h l = sym (div-eq_of_lt (lt_of_lt_of_le h (pow_mono {i = 63} (omega arith))))

pub returns-else-by-lt64 : goal.returns-else-by-lt64
returns-else-by-lt64 c = gone c.args.n c.args.by c.requires c.if-by-lt64.false
