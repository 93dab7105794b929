-- A part lent of an array whose elements are all one value: it is as long as asked for. Assumes nothing.
use mathlib.Core.Path.{◌≡◌, sym}
use Prim.Native.Nat.{ℕ, ◌≤◌}
use lib.ListN.{length, take, replicate, length-replicate}
use lib.Seq.{length-take-le}

-- n elements of an array of m
pub lent : {A : Type 0} (m n : ℕ) (a : A) → n ≤ m → n ≡ length (take n (replicate m a))
lent m n a h = sym (length-take-le n (replicate m a) (rw (length-replicate m a) h))
