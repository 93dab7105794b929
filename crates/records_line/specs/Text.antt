-- Numbers as text in ASCII: document 01, "Records and limits", "frame, id (decimal)" and "8 lower-case hexadecimal digits of the bits".
use Rattle.std.specs.Prelude.{cond, List, [], ◌∷◌, ◌++◌, ℕ, zero, suc, ◌+◌, ◌-◌, ◌/◌, ◌%◌, ltb, Float}
use Rattle.records.specs.Field.{bits}

-- a digit below 16: `0` to `9`, then `a` to `f`
unfoldable pub glyph : ℕ → ℕ
glyph d = cond (ltb d 10) (48 + d) (97 + (d - 10))

-- the last k digits of n in base b, the most significant first
unfoldable pub digits : ℕ → ℕ → ℕ → List ℕ
digits b zero n = []
digits b (suc k) n = digits b k (n / b) ++ (glyph (n % b) ∷ [])

-- how many decimal digits n has, where it has at most k + 1
unfoldable pub places_up_to : ℕ → ℕ → ℕ
places_up_to zero n = 1
places_up_to (suc k) n = cond (ltb n 10) 1 (suc (places_up_to k (n / 10)))

-- a u64 has at most 20
abbrev pub places : ℕ → ℕ
places n = places_up_to 19 n

unfoldable pub decimal : ℕ → List ℕ
decimal n = digits 10 (places n) n

unfoldable pub hex : Float → List ℕ
hex x = digits 16 8 (bits x)

-- a text and the byte that follows it
abbrev pub ended : List ℕ → ℕ → List ℕ
ended xs then = xs ++ (then ∷ [])
