-- Examples that the definitions compute.
use Rattle.std.specs.Prelude.{◌≡◌, refl, true, false, [], ◌∷◌}
use Rattle.mot_fields.specs.Fields.{fields, is_minus_one, of_forms, is_line}

-- nothing is one field without a byte, `,` are two, `7` is one, `-1,,2` three
known-fields : (fields [] ≡ [] ∷ []) × (fields (44 ∷ []) ≡ [] ∷ [] ∷ []) × (fields (55 ∷ []) ≡ (55 ∷ []) ∷ []) × (fields (45 ∷ 49 ∷ 44 ∷ 44 ∷ 50 ∷ []) ≡ (45 ∷ 49 ∷ []) ∷ [] ∷ (50 ∷ []) ∷ [])
unfolding fields
known-fields = (refl, refl, refl, refl)

-- `-1,-1` with a line feed, without one, with two, and with one before the end; and with fewer and more fields
known-lines : (is_line (is_minus_one ∷ is_minus_one ∷ []) (45 ∷ 49 ∷ 44 ∷ 45 ∷ 49 ∷ 10 ∷ []) ≡ true)
    × (is_line (is_minus_one ∷ is_minus_one ∷ []) (45 ∷ 49 ∷ 44 ∷ 45 ∷ 49 ∷ []) ≡ false)
    × (is_line (is_minus_one ∷ is_minus_one ∷ []) (45 ∷ 49 ∷ 44 ∷ 45 ∷ 49 ∷ 10 ∷ 10 ∷ []) ≡ false)
    × (is_line (is_minus_one ∷ is_minus_one ∷ []) (45 ∷ 49 ∷ 10 ∷ 44 ∷ 45 ∷ 49 ∷ 10 ∷ []) ≡ false)
    × (is_line (is_minus_one ∷ is_minus_one ∷ []) (45 ∷ 49 ∷ 10 ∷ []) ≡ false)
    × (is_line (is_minus_one ∷ is_minus_one ∷ []) (45 ∷ 49 ∷ 44 ∷ 45 ∷ 49 ∷ 44 ∷ 45 ∷ 49 ∷ 10 ∷ []) ≡ false)
    × (is_line [] [] ≡ false)
unfolding is_line of_forms fields
known-lines = (refl, refl, refl, refl, refl, refl, refl)
