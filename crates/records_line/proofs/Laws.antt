-- What holds of the definitions: digits are read back as the number, and are as few as can be; and the longest lines. The modules below it are steps of the proofs. Assumes nothing.
pub mod Digits
pub mod Lengths
use mathlib.Core.Path.{◌≡◌}
use Prim.Native.Nat.{ℕ, ◌-◌, ◌^◌, ◌≤◌, ◌<◌}
use native.Mathlib.Nat.{le_refl, lt_of_lt_of_le}
use native.Mathlib.Omega.{arith}
use lib.Dec.{T, lit<, lit≤}
use lib.Ieee.{Float, binary32, fits}
use lib.Ieee.Bits.{to_bits-lt}
use lib.ListN.{length}
use Rattle.records.specs.declared.track_record.TrackRecord.{TrackRecord}
use Rattle.records.specs.Field.{bits}
use Rattle.records_line.specs.Text.{places, decimal, hex}
use Rattle.records_line.specs.Line.{line, line_bytes, refused_line}
use Rattle.records_line.proofs.Laws.Digits.{few-below, most-places, enough-places, fewest_places, read_as, read-digits}
use Rattle.records_line.proofs.Laws.Lengths.{length-decimal, length-line, length-refused}

-- ---- digits are read back as the number; a number of two digits or more has no zero in front

pub decimal-read : (n : ℕ) → n < 2 ^ 64 → read_as 10 (decimal n) ≡ n
unfolding decimal
decimal-read n h = read-digits 10 (places n) n (lit< tt) (lit≤ tt) (enough-places 19 n (lt_of_lt_of_le h (lit≤ tt)))

pub decimal_fewest : (n : ℕ) → 10 ≤ n → 10 ^ (length (decimal n) - 1) ≤ n
decimal_fewest n h = rw (length-decimal n) (fewest_places 19 n h)

pub hex-read : (x : Float) → T (fits binary32 x) → read_as 16 (hex x) ≡ bits x
unfolding hex
hex-read x h = read-digits 16 8 (bits x) (lit< tt) (le_refl 16) (to_bits-lt binary32 x h)

-- ---- the longest texts

pub decimal-most : (n : ℕ) → length (decimal n) ≤ 20
decimal-most n = rw (length-decimal n) (most-places n)

pub line-most : (t : TrackRecord) → t.frame < 2 ^ 32 → length (line t) ≤ 77
line-most t h = let n = length-line t in let a = few-below 19 9 t.frame (lt_of_lt_of_le h (lit≤ tt)) in let b = most-places t.id in omega arith

pub line-room : (t : TrackRecord) → length (line t) ≤ line_bytes
line-room t = let n = length-line t in let a = most-places t.frame in let b = most-places t.id in omega arith

pub refused-most : (number nth : ℕ) → length (refused_line number nth) ≤ 57
refused-most number nth = let n = length-refused number nth in let a = most-places number in let b = most-places nth in omega arith
