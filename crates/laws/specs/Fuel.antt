-- What a loop from k up to n has left. Assumes nothing.
use Rattle.std.specs.Prelude.{◌≡◌, ℕ, suc, ◌+◌, ◌-◌, ◌<◌, ◌≤◌}
use Rattle.std.proofs.Common.{arith}

pub fuel_suc : (n k : ℕ) → k < n → n - k ≡ suc (n - (k + 1))
fuel_suc n k h = omega arith

pub fuel_zero : (n k : ℕ) → n ≤ k → n - k ≡ 0
fuel_zero n k h = omega arith
