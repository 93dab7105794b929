-- The powers of ten: the code's table is computed whole, once. Assumes nothing.
use mathlib.Core.Path.{◌≡◌, refl, ap, ◌∙◌}
use mathlib.Core.List.{List, [], ◌∷◌}
use Prim.Native.Nat.{ℕ, ◌^◌, ◌<◌}
use lib.ListN.{get_or}
use Rattle.laws.specs.Tab.{tab, tab-at}

abbrev powers : List ℕ
powers = 1 ∷ 10 ∷ 100 ∷ 1000 ∷ 10000 ∷ 100000 ∷ 1000000 ∷ []

abbrev power : ℕ → ℕ
power k = 10 ^ k

powers_are : powers ≡ tab power 7
unfolding tab
powers_are = refl

pub power_at : (k : ℕ) → k < 7 → get_or powers k 0 ≡ 10 ^ k
power_at k h = ap (λ (l : List ℕ). get_or l k 0) powers_are ∙ tab-at power 7 k 0 h
