-- Random numbers of 64 bits: docs/ORACLE.md, "The pairing".
use Rattle.std.specs.Prelude.{ℕ, ◌*◌, ◌/◌, ◌%◌, ◌^◌}
use Rattle.std.specs.Int.Bits.{bit_xor}

-- exclusive or with itself, shifted left or right by k
abbrev pub with_left : ℕ → ℕ → ℕ
with_left k r = bit_xor r (r * 2 ^ k % 2 ^ 64)

abbrev pub with_right : ℕ → ℕ → ℕ
with_right k r = bit_xor r (r / 2 ^ k)

-- one step of a xorshift generator
unfoldable pub next : ℕ → ℕ
next r = with_left 17 (with_right 7 (with_left 13 r))
