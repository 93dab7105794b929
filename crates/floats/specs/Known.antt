-- Document 01, "Known examples", the starred cases on floats. A row is the bit pattern of what a definition gives, and the document's. Later layers append rows of theirs.
use Rattle.std.specs.Prelude.{◌≡◌, ℕ, List, [], ◌∷◌, map, pos, negsuc, refl, Float}
use Rattle.std.specs.Float.{binary32}
use Rattle.std.specs.Float.Ieee.{of_bits, to_bits, is_nan, units, div, mul, le, of_int}
use Rattle.floats.specs.Root.{root}
use Rattle.floats.specs.Power.{powi}
use Rattle.floats.specs.Exponential.{exp}

abbrev pub f32 : ℕ → Float
f32 bits = of_bits binary32 bits

abbrev pub bits : Float → ℕ
bits x = to_bits binary32 x

abbrev pub rows : List (ℕ × ℕ)
rows =
    -- `exp`: 0 gives 1, 89 infinity, -104 zero
    (bits (exp (f32 0)), 0x3f80_0000)
    ∷ (bits (exp (f32 0x42b2_0000)), 0x7f80_0000)
    ∷ (bits (exp (f32 0xc2d0_0000)), 0)
    -- root of 2
    ∷ (bits (root (f32 0x4000_0000)), 0x3fb5_04f3)
    -- 0.9 to -1, and to 0
    ∷ (bits (powi (f32 0x3f66_6666) (negsuc 0)), 0x3f8e_38e4)
    ∷ (bits (powi (f32 0x3f66_6666) (pos 0)), 0x3f80_0000)
    ∷ []

pub known : map (λ (row : ℕ × ℕ). row.0) rows ≡ map (λ (row : ℕ × ℕ). row.1) rows
unfolding powi exp root of_bits to_bits is_nan units div mul le of_int
known = refl
