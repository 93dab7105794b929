-- Worked examples: the definitions yield them by computation.
use Rattle.std.specs.Prelude.{◌≡◌, refl, [], ◌∷◌}
use Rattle.vectors.specs.Words.{word_of}
use Rattle.vectors.specs.Cells.{pattern}

pub word-known : word_of 1 2 3 4 ≡ 0x0403_0201
word-known = refl

-- the second pattern, and 7 mod 5 more
pub pattern-known : pattern 0x7_0000_0001 4 (10 ∷ 20 ∷ []) ≡ 22
pattern-known = refl
