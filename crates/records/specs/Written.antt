-- What a call that writes answers, how many bytes it wrote or that there was no room, and each cell of the slice that it was lent.
use Rattle.std.specs.Prelude.{◌≡◌, Bool, cond, List, ℕ, ◌+◌, ◌*◌, ◌/◌, ◌≤◌, leb, ltb, length, Option, Some, None}
use Rattle.laws.specs.Splice.{splice}

-- xs is written from `at` on where it fits, and all other bytes are as they were; where it does not fit no byte is written
pub record Writes (fits : Bool) (at : ℕ) (xs out : List ℕ) (w : Option ℕ) (out' : List ℕ) : Type 0 where
  pub answer : w ≡ cond fits (Some (length xs)) None
  pub cells : out' ≡ cond fits (splice out at xs) out

-- record k of records of s bytes: it fits where the slice has more than k whole ones
abbrev pub WritesRecord : ℕ → ℕ → List ℕ → List ℕ → Option ℕ → List ℕ → Type 0
WritesRecord s k xs out w out' = Writes (ltb k (length out / s)) (k * s) xs out w out'

-- a text, at the front
abbrev pub WritesText : List ℕ → List ℕ → Option ℕ → List ℕ → Type 0
WritesText xs out w out' = Writes (leb (length xs) (length out)) 0 xs out w out'

-- ---- between the functions that write: what one hands to the next

-- xs was written over l from `at` on, and ends where the next is written
pub record Put (at : ℕ) (xs l : List ℕ) (next : ℕ) (out : List ℕ) : Type 0 where
  pub ends : next ≡ at + length xs
  pub room : next ≤ length l
  pub cells : out ≡ splice l at xs
