-- What a loop that draws cells knows. Assumes nothing.
use mathlib.Core.Path.{◌≡◌, ap, ◌∙◌}
use mathlib.Core.List.{List}
use Prim.Native.Nat.{ℕ, ◌+◌, ◌<◌}
use native.Mathlib.Nat.{le_refl}
use lib.ListN.{length, get_or, set}
use lib.Ieee.{Float, nan}
use Rattle.laws.specs.Tab.{Filling, fill_on, fill_ahead}
use Rattle.vectors.specs.Cells.{cell}

module _ (seed spread step : ℕ) (from : List ℕ) where
  -- one more cell
  pub more : (l out : List Float) (k : ℕ) (x : Float) → Filling (λ i. cell seed spread step from i (get_or l i nan)) l (length l) k out → k < length l → x ≡ cell seed spread step from k (get_or out k nan) → Filling (λ i. cell seed spread step from i (get_or l i nan)) l (length l) (k + 1) (set out k x)
  more l out k x w h e = fill_on _ _ _ w h (le_refl _) (e ∙ ap (cell seed spread step from k) (fill_ahead _ _ _ w nan))
