-- An entry of x or y. Not from the Rust, whose entries are isize with -1 for none: here the lists hold an index, or n for none, and the definitions look
-- at an entry only as an option: the row that owns it (in x, the column), or none where it is free.
use Rattle.std.specs.Prelude.{Bool, true, false, cond, ℕ, ltb, Option, Some, None}

unfoldable pub owner_of : ℕ → ℕ → Option ℕ
owner_of n r = cond (ltb r n) (Some r) None

-- `x[i] < 0` of the Rust, as in line 51
unfoldable pub is_free : Option ℕ → Bool
is_free (Some r) = false
is_free None = true

-- `y[j] as usize` of the Rust, as in line 50, which it writes only of an entry that is taken
unfoldable pub row_of : ℕ → Option ℕ → ℕ
row_of n (Some r) = r
row_of n None = n
