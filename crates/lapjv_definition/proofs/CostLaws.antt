-- Places of a square matrix that lies row by row, and how many there are. Assumes nothing.
use Prim.Native.Nat.{ℕ, ◌*◌, ◌≤◌}
use native.Mathlib.Nat.{mul-le-mul_right, mul-le-mul_left, le_trans}

pub square-small : (n : ℕ) → n ≤ 255 → n * n ≤ 65025
square-small n h = le_trans (mul-le-mul_right n h) (mul-le-mul_left 255 h)
