-- A list that another one begins with.
use Rattle.std.specs.Prelude.{◌≡◌, List, ◌++◌, ℕ}

pub record Prefix (xs all : List ℕ) : Type 0 where
  pub rest : List ℕ
  pub split : all ≡ xs ++ rest
