-- What a read may answer, in a part of a buffer and in the whole; and the test of a program's loop. Assumes nothing.
use mathlib.Core.Path.{◌≡◌}
use mathlib.Core.Bool.{Bool, true, ◌&&◌}
use mathlib.Core.List.{List}
use Prim.Native.Nat.{ℕ, ◌≤◌, ◌<◌}
use native.Mathlib.Omega.{arith}
use lib.Dec.{ltb}
use lib.ListN.{length, take, length-take}
use borrow.Author.Tests.{ltb-true}
use Rattle.laws.specs.Tests.{and_left, and_right}
use Rattle.std.specs.Prelude.{Option, Some, None}
use Rattle.program_io.specs.Input.{Within}

-- ---- a part of a buffer

within_more : (m n : ℕ) (r : Option ℕ) → m ≤ n → Within m r → Within n r
within_more m n (Some k) h w = omega (arith, h, w)
within_more m n None h w = tt

-- what was read into the front
pub front-within : (n : ℕ) (l : List ℕ) (r : Option ℕ) → Within (length (take n l)) r → Within (length l) r
front-within n l r w = let e = length-take n l in within_more (length (take n l)) (length l) r (omega (arith, e)) w

-- ---- the test of a loop that counts its turns down

pub turns-left : (turns : ℕ) (going : Bool) → (ltb 0 turns && going) ≡ true → 0 < turns
turns-left turns going e = ltb-true 0 turns (and_left (ltb 0 turns) going e)

pub goes_on : (turns : ℕ) (going : Bool) → (ltb 0 turns && going) ≡ true → going ≡ true
goes_on turns going e = and_right (ltb 0 turns) going e
