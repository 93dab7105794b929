-- What the contracts of the private functions cite. proofs/ shows that it comes to the definition.
use Rattle.std.specs.Prelude.{◌≡◌, List, Bool, ℕ, ◌+◌, ◌<◌, length, get_or}
use Rattle.laws.specs.Tab.{tab}
use Rattle.laws.specs.Count.{bit, count_where}

-- what the sum of a row asks: no sum of a column is yet as large as a byte can be
pub record RowIn (m : ℕ) (sums : List ℕ) : Type 0 where
  pub same : length sums ≡ m
  pub small : (j : ℕ) → j < m → get_or sums j 0 < 255

-- the sums of the columns with one more row
abbrev pub raised : (ℕ → Bool) → List ℕ → ℕ → ℕ
raised p sums j = get_or sums j 0 + bit (p j)

pub record RowOut (p : ℕ → Bool) (m : ℕ) (sums : List ℕ) (sum : ℕ) (out : List ℕ) : Type 0 where
  pub sum_is : sum ≡ count_where p m
  pub cols : out ≡ tab (raised p sums) m
