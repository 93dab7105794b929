-- Where a byte first stands in a text: its place, counted from 0, or the text's length where it stands nowhere in it.
use Rattle.std.specs.Prelude.{Bool, true, false, List, [], ◌∷◌, ℕ, zero, suc, eqb}

-- behind a byte that is the one sought, or is not: k is the place in what follows it
unfoldable pub index_after : Bool → ℕ → ℕ
index_after true k = zero
index_after false k = suc k

unfoldable pub index_of : ℕ → List ℕ → ℕ
index_of x [] = zero
index_of x (b ∷ bs) = index_after (eqb b x) (index_of x bs)
