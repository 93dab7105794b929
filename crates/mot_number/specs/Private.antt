-- What the private functions hand one another. No public contract cites these.
use Rattle.std.specs.Prelude.{Bool, cond, List, ◌++◌, ℕ, length, Option, Some, None, Float}
use Rattle.mot_number.specs.Number.{one_to_six, with_digits, whole_of, behind_of, is_unsigned, rounded}

-- one to six digits, behind those that make v
unfoldable pub digits_of : ℕ → List ℕ → Option ℕ
digits_of v t = cond (one_to_six t) (Some (with_digits v t)) None

-- a number behind its sign
unfoldable pub unsigned_of : Bool → List ℕ → Option Float
unsigned_of negative u = cond (is_unsigned u) (Some (rounded negative (with_digits 0 (whole_of u ++ behind_of u)) (length (behind_of u)))) None
