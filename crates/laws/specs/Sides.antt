-- The sides of a flat matrix: n rows of m cells, each side at most 255. Assumes nothing.
use Rattle.std.specs.Prelude.{ℕ, ◌*◌, ◌^◌, ◌≤◌, ◌<◌}
use Rattle.std.proofs.Common.{mul-le-mul, lt_of_le_of_lt, lit<}

-- the number of cells is a usize
pub sides_fit : {n m : ℕ} → n ≤ 255 → m ≤ 255 → n * m < 2 ^ 64
sides_fit {n} {m} a b = lt_of_le_of_lt (mul-le-mul a b) (lit< tt)
