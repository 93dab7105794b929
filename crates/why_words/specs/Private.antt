-- What only the contracts between private functions cite.
use Rattle.std.specs.Prelude.{ℕ, ◌≤◌, List, length}
use Rattle.records.specs.Written.{Put}

-- xs was written over l from `at` on, and has at most so many bytes
pub record Puts (most at : ℕ) (xs l : List ℕ) (next : ℕ) (out : List ℕ) : Type 0 where
  pub put : Put at xs l next out
  pub few : length xs ≤ most
