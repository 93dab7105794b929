-- A field of a record, little-endian: document 01, "Records and limits". A byte is a number below 256.
use Rattle.std.specs.Prelude.{List, [], ◌∷◌, ◌++◌, ℕ, zero, suc, ◌+◌, ◌*◌, ◌/◌, ◌%◌, ◌<◌, Float, take, drop, get_or}
use Rattle.std.specs.Float.{binary32}
use Rattle.std.specs.Float.Ieee.{to_bits, of_bits}

-- each element is a byte; past the end `get_or` gives 0
abbrev pub AreBytes : List ℕ → Type 0
AreBytes l = (i : ℕ) → get_or l i 0 < 256

-- n in k bytes, the lowest first
unfoldable pub little_endian : ℕ → ℕ → List ℕ
little_endian zero n = []
little_endian (suc k) n = n % 256 ∷ little_endian k (n / 256)

-- the number that bytes are read as
unfoldable pub value : List ℕ → ℕ
value [] = 0
value (b ∷ bs) = b + 256 * value bs

-- the bit pattern of an f32, that of the one NaN being 7fc00000; and the f32 of a bit pattern, the one NaN for each pattern that IEEE 754 gives to a NaN
abbrev pub bits : Float → ℕ
bits x = to_bits binary32 x

abbrev pub float : ℕ → Float
float n = of_bits binary32 n

-- five f32, one after the other
abbrev pub five : Float → Float → Float → Float → Float → List ℕ
five a b c d e = little_endian 4 (bits a) ++ (little_endian 4 (bits b) ++ (little_endian 4 (bits c) ++ (little_endian 4 (bits d) ++ little_endian 4 (bits e))))

-- the number, and the f32, in the bytes from `at` on
abbrev pub part : ℕ → ℕ → List ℕ → List ℕ
part at k l = take k (drop at l)

abbrev pub float_at : ℕ → List ℕ → Float
float_at at l = float (value (part at 4 l))
