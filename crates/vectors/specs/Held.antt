-- Floats that are held for later records: docs/ORACLE.md, "Records".
use Rattle.std.specs.Prelude.{◌≡◌, List, ℕ, min, length, get_or, take, drop, Float}

-- the places that the first two words of a record name, within the list
abbrev pub end : List ℕ → List Float → ℕ
end w l = min (get_or w 1 0) (length l)

abbrev pub start : List ℕ → List Float → ℕ
start w l = min (get_or w 0 0) (end w l)

-- what is not between them is as it was
abbrev pub KeepsOutside : List ℕ → List Float → List Float → Type 0
KeepsOutside w before after = (take (start w before) after ≡ take (start w before) before) × (drop (end w before) after ≡ drop (end w before) before)
