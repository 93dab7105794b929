-- Document 01, "Known examples": the one track of the box record as a line, and the line of a refusal; and the largest u64. The definitions yield them by computation.
use Rattle.std.specs.Prelude.{◌≡◌, refl, [], ◌∷◌, ◌++◌}
use Rattle.std.specs.Float.Ieee.{of_bits, to_bits}
use Rattle.records.specs.Known.{lone_track}
use Rattle.records_line.specs.Text.{glyph, digits, places_up_to, decimal, hex}
use Rattle.records_line.specs.Line.{line, refused_line, refused, of_record}

-- `1 1 41200000 41a00000 42000000 42800000 3ef4e351`
pub line_known : line lone_track
    ≡ 49 ∷ 32 ∷ 49 ∷ 32 ∷ 52 ∷ 49 ∷ 50 ∷ 48 ∷ 48 ∷ 48 ∷ 48 ∷ 48 ∷ 32 ∷ 52 ∷ 49 ∷ 97 ∷ 48 ∷ 48 ∷ 48 ∷ 48 ∷ 48 ∷ 32 ∷ 52 ∷ 50 ∷ 48 ∷ 48 ∷ 48 ∷ 48 ∷ 48 ∷ 48 ∷ 32
    ∷ 52 ∷ 50 ∷ 56 ∷ 48 ∷ 48 ∷ 48 ∷ 48 ∷ 48 ∷ 32 ∷ 51 ∷ 101 ∷ 102 ∷ 52 ∷ 101 ∷ 51 ∷ 53 ∷ 49 ∷ 10 ∷ []
unfolding line decimal hex digits glyph places_up_to of_bits to_bits
line_known = refl

-- `refused 42 record 5`
pub refused-known : refused_line 42 5 ≡ refused ++ (52 ∷ 50 ∷ 32 ∷ (of_record ++ (53 ∷ 10 ∷ [])))
unfolding refused_line decimal digits glyph places_up_to
refused-known = refl

-- the largest u64
pub largest_known : decimal 18446744073709551615 ≡ 49 ∷ 56 ∷ 52 ∷ 52 ∷ 54 ∷ 55 ∷ 52 ∷ 52 ∷ 48 ∷ 55 ∷ 51 ∷ 55 ∷ 48 ∷ 57 ∷ 53 ∷ 53 ∷ 49 ∷ 54 ∷ 49 ∷ 53 ∷ []
unfolding decimal digits glyph places_up_to
largest_known = refl
