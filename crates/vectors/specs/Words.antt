-- Words of the input: docs/ORACLE.md, "Records".
use Rattle.std.specs.Prelude.{◌≡◌, List, ℕ, ◌+◌, ◌*◌, ◌≤◌, ◌<◌, length, get_or}

-- the number of four bytes, the lowest first
abbrev pub word_of : ℕ → ℕ → ℕ → ℕ → ℕ
word_of a b c d = a + 256 * (b + 256 * (c + 256 * d))

-- behind the elements that are given, of a list whose default is z, each is `rest`
abbrev pub RestIs : {A : Type 0} → A → A → ℕ → List A → Type 0
RestIs z rest given l = (i : ℕ) → given ≤ i → i < length l → get_or l i z ≡ rest
