-- The cost matrix, one list row by row where lapjv.rs has a list of rows; its LARGE, line 9; and the minus of f64.
use Rattle.std.specs.Prelude.{◌≡◌, refl, List, ℕ, ◌+◌, ◌*◌, get_or, Float, pos}
use Rattle.std.specs.Float.{nan, binary64}
use Rattle.std.specs.Float.Ieee.{sub, of_int, of_bits}

-- cost[i][j], as in line 36
abbrev pub at : List Float → ℕ → ℕ → ℕ → Float
at cost n i j = get_or cost (i * n + j) nan

-- a - b of two f64, as in line 73
abbrev pub ◌⊖◌ : Float → Float → Float
a ⊖ b = sub binary64 a b

infixl 60 ◌⊖◌
-- line 9, as f64: 1000000
abbrev pub large : Float
large = of_bits binary64 0x412e_8480_0000_0000

large_is : large ≡ of_int binary64 (pos 1000000)
unfolding of_bits of_int
large_is = refl
