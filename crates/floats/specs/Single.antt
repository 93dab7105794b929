-- Single operations of f32, each rounded once (⊕ ⊖ ⊗ ⊘ for + - × /), and the constants that the layers above use.
use Rattle.std.specs.Prelude.{◌≡◌, false, pos, refl, Float}
use Rattle.std.specs.Float.{binary32}
use Rattle.std.specs.Float.Ieee.{add, sub, mul, div, of_bits, of_int, round}

infixl 6 ◌⊕◌
infixl 6 ◌⊖◌
infixl 7 ◌⊗◌
infixl 7 ◌⊘◌
abbrev pub ◌⊕◌ : Float → Float → Float
x ⊕ y = add binary32 x y

abbrev pub ◌⊖◌ : Float → Float → Float
x ⊖ y = sub binary32 x y

abbrev pub ◌⊗◌ : Float → Float → Float
x ⊗ y = mul binary32 x y

abbrev pub ◌⊘◌ : Float → Float → Float
x ⊘ y = div binary32 x y

-- ---- the constants by their bits, as the code has them

abbrev pub plus_zero : Float
plus_zero = of_bits binary32 0

abbrev pub one : Float
one = of_bits binary32 0x3f80_0000

abbrev pub two : Float
two = of_bits binary32 0x4000_0000

abbrev pub ten : Float
ten = of_bits binary32 0x4120_0000

abbrev pub ten_thousand : Float
ten_thousand = of_bits binary32 0x461c_4000

abbrev pub hundredth : Float
hundredth = of_bits binary32 0x3c23_d70a

abbrev pub millionth : Float
millionth = of_bits binary32 0x3586_37bd

-- and what they are: whole numbers, and the f32 nearest to 1 / 100 and to 1 / 1000000
pub whole : (plus_zero ≡ of_int binary32 (pos 0)) × (one ≡ of_int binary32 (pos 1)) × (two ≡ of_int binary32 (pos 2)) × (ten ≡ of_int binary32 (pos 10)) × (ten_thousand ≡ of_int binary32 (pos 10000))
unfolding of_bits of_int
whole = (refl, refl, refl, refl, refl)

pub parts : (hundredth ≡ round binary32 false 1 100) × (millionth ≡ round binary32 false 1 1000000)
unfolding of_bits round
parts = (refl, refl)
