-- Texts as they are written, and what the definition makes of them by computation: the bits of the f32, and 7fc00000, a NaN's, where a text is no number.
use Rattle.std.specs.Prelude.{◌≡◌, refl, List, [], ◌∷◌, map, ℕ, Option, Some, None, Float}
use Rattle.std.specs.Float.{binary32}
use Rattle.std.specs.Float.Ieee.{to_bits, round}
use Rattle.mot_number.specs.Index.{index_of, index_after}
use Rattle.laws.specs.Every.{every}
use Rattle.mot_number.specs.Number.{one_to_six, is_unsigned, with_digits, number_of}

abbrev bits : Option Float → ℕ
bits (Some v) = to_bits binary32 v
bits None = 0x7fc0_0000

abbrev read : List (List ℕ) → List ℕ
read ts = map (λ (t : List ℕ). bits (number_of t)) ts

-- `0.1`, `-12.5`, `000001`, `0`, `-0`, `-0.000000`, `999999.999999`
numbers : read (
    (48 ∷ 46 ∷ 49 ∷ [])
    ∷ (45 ∷ 49 ∷ 50 ∷ 46 ∷ 53 ∷ [])
    ∷ (48 ∷ 48 ∷ 48 ∷ 48 ∷ 48 ∷ 49 ∷ [])
    ∷ (48 ∷ [])
    ∷ (45 ∷ 48 ∷ [])
    ∷ (45 ∷ 48 ∷ 46 ∷ 48 ∷ 48 ∷ 48 ∷ 48 ∷ 48 ∷ 48 ∷ [])
    ∷ (57 ∷ 57 ∷ 57 ∷ 57 ∷ 57 ∷ 57 ∷ 46 ∷ 57 ∷ 57 ∷ 57 ∷ 57 ∷ 57 ∷ 57 ∷ []) ∷ [])
    ≡ 0x3dcc_cccd ∷ 0xc148_0000 ∷ 0x3f80_0000 ∷ 0 ∷ 0x8000_0000 ∷ 0x8000_0000 ∷ 0x4974_2400 ∷ []
unfolding number_of is_unsigned one_to_six every index_of index_after with_digits to_bits round
numbers = refl

-- `262144.015625` and `262144.046875` lie in the middle of two f32: the first goes down and the second up, each to the even one. `65536.001` is 65536.
ties : read (
    (50 ∷ 54 ∷ 50 ∷ 49 ∷ 52 ∷ 52 ∷ 46 ∷ 48 ∷ 49 ∷ 53 ∷ 54 ∷ 50 ∷ 53 ∷ [])
    ∷ (50 ∷ 54 ∷ 50 ∷ 49 ∷ 52 ∷ 52 ∷ 46 ∷ 48 ∷ 52 ∷ 54 ∷ 56 ∷ 55 ∷ 53 ∷ [])
    ∷ (54 ∷ 53 ∷ 53 ∷ 51 ∷ 54 ∷ 46 ∷ 48 ∷ 48 ∷ 49 ∷ []) ∷ [])
    ≡ 0x4880_0000 ∷ 0x4880_0002 ∷ 0x4780_0000 ∷ []
unfolding number_of is_unsigned one_to_six every index_of index_after with_digits to_bits round
ties = refl

-- nothing, `0000001`, `.5`, `5.`, `-`, `--1`, `+1`, ` 1`, `1e3`, `1.2.3`, `0.1234567`
no-numbers : read (
    []
    ∷ (48 ∷ 48 ∷ 48 ∷ 48 ∷ 48 ∷ 48 ∷ 49 ∷ [])
    ∷ (46 ∷ 53 ∷ [])
    ∷ (53 ∷ 46 ∷ [])
    ∷ (45 ∷ [])
    ∷ (45 ∷ 45 ∷ 49 ∷ [])
    ∷ (43 ∷ 49 ∷ [])
    ∷ (32 ∷ 49 ∷ [])
    ∷ (49 ∷ 101 ∷ 51 ∷ [])
    ∷ (49 ∷ 46 ∷ 50 ∷ 46 ∷ 51 ∷ [])
    ∷ (48 ∷ 46 ∷ 49 ∷ 50 ∷ 51 ∷ 52 ∷ 53 ∷ 54 ∷ 55 ∷ []) ∷ [])
    ≡ 0x7fc0_0000 ∷ 0x7fc0_0000 ∷ 0x7fc0_0000 ∷ 0x7fc0_0000 ∷ 0x7fc0_0000 ∷ 0x7fc0_0000 ∷ 0x7fc0_0000 ∷ 0x7fc0_0000 ∷ 0x7fc0_0000 ∷ 0x7fc0_0000 ∷ 0x7fc0_0000 ∷ []
unfolding number_of is_unsigned one_to_six every index_of index_after with_digits to_bits round
no-numbers = refl
