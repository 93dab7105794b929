-- The cells of a large matrix, drawn by their places: docs/ORACLE.md, "Records".
use Rattle.std.specs.Prelude.{cond, List, ℕ, ◌+◌, ◌*◌, ◌/◌, ◌%◌, ◌^◌, eqb, get_or, Float}
use Rattle.std.specs.Int.Bits.{bit_xor}
use Rattle.vectors_digest.specs.Random.{next}
use Rattle.vectors_digest.specs.Floats.{float}

-- the random number of place k
abbrev pub number_of : ℕ → ℕ → ℕ
number_of seed k = next (next (next (bit_xor seed (k % 2 ^ 32 * 0x9e37_79b9))))

-- one of 16 patterns, or one up to `spread` above it
abbrev pub pattern : ℕ → ℕ → List ℕ → ℕ
pattern r spread from = (get_or from (r % 16) 0 % 2 ^ 32 + r / 2 ^ 32 % (spread % 2 ^ 32 + 1) % 2 ^ 32) % 2 ^ 32

-- cell k: the places that are multiples of step + 1 are drawn, the others hold what they held
unfoldable pub cell : ℕ → ℕ → ℕ → List ℕ → ℕ → Float → Float
cell seed spread step from k old = cond (eqb (k % (step % 2 ^ 32 + 1)) 0) (float (pattern (number_of seed k) spread from)) old
