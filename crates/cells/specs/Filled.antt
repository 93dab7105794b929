-- A list, or a matrix over the front of one, each of whose elements a closure made of its place and of the element that was there.
use Rattle.std.specs.Prelude.{◌≡◌, List, ℕ, ◌*◌, ◌≤◌, ◌<◌, length, get_or}
use Rattle.laws.specs.Grid.{cell_at}

-- out has the length of l, and element j of it is one that `makes` allows for j and the element j of l, whatever stands for what is past the end
pub record Filled {A : Type 0} (makes : ℕ → A → A → Type 0) (l out : List A) : Type 0 where
  pub same : length out ≡ length l
  pub each : (j : ℕ) (d : A) → j < length l → makes j (get_or l j d) (get_or out j d)

-- the n rows of m cells over the front of l are made so, each cell of its row, its column and what was there; what lies behind them is as it was
pub record RowsFilled {A : Type 0} (makes : ℕ → ℕ → A → A → Type 0) (n m : ℕ) (l out : List A) : Type 0 where
  pub same : length out ≡ length l
  pub each : (i j : ℕ) (d : A) → i < n → j < m → makes i j (cell_at d m l i j) (cell_at d m out i j)
  pub rest : (k : ℕ) (d : A) → n * m ≤ k → get_or out k d ≡ get_or l k d
