-- Record k of a slice of records of s bytes each, where it has more than k whole ones.
use Rattle.std.specs.Prelude.{cond, List, ℕ, ◌*◌, ◌/◌, ltb, length, Option, Some, None}
use Rattle.records.specs.Field.{part}

abbrev pub record_at : {A : Type 0} → ℕ → (List ℕ → A) → List ℕ → ℕ → Option A
record_at s of l k = cond (ltb k (length l / s)) (Some (of (part (k * s) s l))) None
