-- Floats of bit patterns, and the words that stand for floats in a digest: docs/ORACLE.md, "The pairing".
use Rattle.std.specs.Prelude.{cond, ℕ, Float}
use Rattle.std.specs.Float.{binary32, binary64}
use Rattle.std.specs.Float.Ieee.{of_bits, to_bits, eq}

-- the f32 of a bit pattern, and the bit pattern of an f32: that of the one NaN is 7fc00000
abbrev pub float : ℕ → Float
float n = of_bits binary32 n

abbrev pub bits : Float → ℕ
bits x = to_bits binary32 x

-- the word of an f32: its bits, and 0 for both zeros
unfoldable pub word : Float → ℕ
word x = cond (eq x (of_bits binary32 0)) 0 (bits x)

-- the word of an f64: its bits, those of the one NaN being 7ff8000000000000
abbrev pub wide_word : Float → ℕ
wide_word x = to_bits binary64 x
