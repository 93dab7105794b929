-- Document 01, "When a call is turned down", Frame: "16 a box with a value not finite, width or height not above 0, left, top, width or height beyond 65536 in magnitude, or score outside 0 to 1".
use Rattle.std.specs.Prelude.{◌≡◌, refl, Bool, true, false, not, ◌&&◌, ◌||◌, [], ◌∷◌, ℕ, Float}
use Rattle.std.specs.Float.{binary32}
use Rattle.std.specs.Float.Ieee.{of_bits, neg, lt}
use Rattle.std.specs.Float.Ieee.Scale.{finite}
use Rattle.laws.specs.Every.{every}
use Rattle.floats.specs.Single.{plus_zero, one}

-- 65536
abbrev pub far : Float
far = of_bits binary32 0x4780_0000

unfoldable pub beyond : Float → Bool
beyond x = lt x (neg far) || lt far x

unfoldable pub bad_box : Float → Float → Float → Float → Float → Bool
bad_box left top width height score =
    not (every finite (left ∷ top ∷ width ∷ height ∷ score ∷ []))
    || (not (lt plus_zero width && lt plus_zero height) || ((beyond left || (beyond top || (beyond width || beyond height))) || (lt score plus_zero || lt one score)))

-- ---- known

-- at 0, 0, of 32 by this height, with this score, all in bits
abbrev bad : ℕ → ℕ → ℕ → Bool
bad left height score = bad_box (of_bits binary32 left) (of_bits binary32 0) (of_bits binary32 0x4200_0000) (of_bits binary32 height) (of_bits binary32 score)

-- 65536 and -65536 are taken, and the next ones are not; a height of 2^-149 is, and 0 and -0 are not; scores of 1 and -0 are, and the ones next to 0 and 1 are not; a NaN is not
known-boxes : (bad 0x4780_0000 0x4280_0000 0x3f40_0000 ≡ false) × (bad 0x4780_0001 0x4280_0000 0x3f40_0000 ≡ true) × (bad 0xc780_0000 0x4280_0000 0x3f40_0000 ≡ false) × (bad 0xc780_0001 0x4280_0000 0x3f40_0000 ≡ true)
    × (bad 0 1 0x3f40_0000 ≡ false) × (bad 0 0 0x3f40_0000 ≡ true) × (bad 0 0x8000_0000 0x3f40_0000 ≡ true)
    × (bad 0 0x4280_0000 0x3f80_0000 ≡ false) × (bad 0 0x4280_0000 0x3f80_0001 ≡ true) × (bad 0 0x4280_0000 0x8000_0000 ≡ false) × (bad 0 0x4280_0000 0x8000_0001 ≡ true) × (bad 0x7fc0_0000 0x4280_0000 0x3f40_0000 ≡ true)
unfolding bad_box beyond every of_bits lt neg
known-boxes = (refl, refl, refl, refl, refl, refl, refl, refl, refl, refl, refl, refl)
