-- What a loop that fills a list knows, and what a caller makes of its end. Assumes nothing.
use Rattle.std.specs.Prelude.{◌≡◌, List, ℕ, ◌<◌, ◌≤◌, length, get_or}
use Rattle.laws.specs.Tab.{tab, tab_of}
use Rattle.cells.specs.Filled.{Filled}

-- the elements before k are made, and the others as they were
pub record Filling {A : Type 0} (makes : ℕ → A → A → Type 0) (l : List A) (k : ℕ) (out : List A) : Type 0 where
  pub same : length out ≡ length l
  pub each : (j : ℕ) (d : A) → j < k → makes j (get_or l j d) (get_or out j d)
  pub rest : (j : ℕ) (d : A) → k ≤ j → get_or out j d ≡ get_or l j d

-- where each element that may be made is f of its place
pub filled_tab : {A : Type 0} {makes : ℕ → A → A → Type 0} {l out : List A} (d : A) (f : ℕ → A) → Filled makes l out
    → ((j : ℕ) → j < length l → makes j (get_or l j d) (get_or out j d) → get_or out j d ≡ f j) → out ≡ tab f (length l)
filled_tab d f w e = tab_of f _ _ d w.same (λ j h. e j h (w.each j d h))
