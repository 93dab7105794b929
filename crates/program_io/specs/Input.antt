-- What a read may answer: how many bytes it read, or nothing where it failed. Which bytes it brought is the system's, and no contract says it.
use Rattle.std.specs.Prelude.{ℕ, ◌≤◌, Option, Some, None, Result, Ok, Err}

-- of what a call answered
abbrev pub input_of : {E : Type 0} → Result ℕ E → Option ℕ
input_of (Ok n) = Some n
input_of (Err e) = None

-- no more than there is room for
abbrev pub Within : ℕ → Option ℕ → Type 0
Within size (Some n) = n ≤ size
Within size None = Unit {0}
