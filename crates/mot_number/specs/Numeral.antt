-- How a number is written: document 02, N1, "an optional minus, one to six digits, and optionally a point with one to six digits". A digit is a number below ten, and its byte is 48 more.
use Rattle.std.specs.Prelude.{Bool, true, false, List, [], ◌∷◌, ◌++◌, map, ℕ, ◌+◌, ◌*◌, ◌≤◌, ◌<◌, length}
use Rattle.mot_number.specs.Number.{Decimal}

abbrev pub AreDigits : List ℕ → Type 0
AreDigits [] = Unit {0}
AreDigits (d ∷ ds) = (d < 10) × AreDigits ds

-- the digits of a number as it is written: some before the point, and none or some behind it
pub record Numeral : Type 0 where
  pub negative : Bool
  pub whole : List ℕ
  pub behind : List ℕ
  pub whole-digits : AreDigits whole
  pub whole-some : 1 ≤ length whole
  pub whole-most : length whole ≤ 6
  pub behind-digits : AreDigits behind
  pub behind-most : length behind ≤ 6

-- ---- its text

abbrev pub in_bytes : List ℕ → List ℕ
in_bytes ds = map (λ (d : ℕ). 48 + d) ds

-- a point stands only where digits stand behind it
abbrev pub pointed : List ℕ → List ℕ
pointed [] = []
pointed (d ∷ ds) = 46 ∷ in_bytes (d ∷ ds)

abbrev pub signed : Bool → List ℕ → List ℕ
signed true t = 45 ∷ t
signed false t = t

abbrev pub text_of : Numeral → List ℕ
text_of n = signed n.negative (in_bytes n.whole ++ pointed n.behind)

-- ---- its value

-- the number v with these digits behind it
unfoldable pub digits_behind : ℕ → List ℕ → ℕ
digits_behind v [] = v
digits_behind v (d ∷ ds) = digits_behind (v * 10 + d) ds

abbrev pub value_of : Numeral → Decimal
value_of n = record { negative = n.negative; m = digits_behind 0 (n.whole ++ n.behind); k = length n.behind }
