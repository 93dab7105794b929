-- A word as a decimal number: one to ten digits alone.
use Rattle.std.specs.Prelude.{cond, ◌||◌, List, [], ◌∷◌, ℕ, ◌+◌, ◌-◌, ◌*◌, leb, ltb, Option, Some, None}

-- n with one more digit behind it
unfoldable pub longer : ℕ → ℕ → Option ℕ
longer n b = cond ((ltb b 48 || ltb 57 b) || leb 1000000000 n) None (Some (n * 10 + (b - 48)))

-- n with these digits behind it
abbrev pub where_digits : Option ℕ → (ℕ → Option ℕ) → Option ℕ
where_digits (Some n) more = more n
where_digits None more = None

unfoldable pub digits_behind : ℕ → List ℕ → Option ℕ
digits_behind n [] = Some n
digits_behind n (b ∷ bs) = where_digits (longer n b) (λ (m : ℕ). digits_behind m bs)

unfoldable pub number_of : List ℕ → Option ℕ
number_of [] = None
number_of (b ∷ bs) = digits_behind 0 (b ∷ bs)
