-- How long a field and a record are. Assumes nothing.
use mathlib.Core.Path.{◌≡◌, refl, ap}
use Prim.Native.Nat.{ℕ, zero, suc, ◌/◌}
use lib.Ieee.{Float}
use lib.ListN.{length, length-append}
use Rattle.records.specs.Field.{little_endian, five}
pub use Rattle.records.specs.BoxRecord.{length-box}
pub use Rattle.records.specs.TrackRecord.{length-track}

pub length_le : (k n : ℕ) → length (little_endian k n) ≡ k
unfolding little_endian
length_le zero n = refl
length_le (suc k) n = ap suc (length_le k (n / 256))

pub length-five : (a b c d e : Float) → length (five a b c d e) ≡ 20
length-five a b c d e = simp (length-append, length_le)
