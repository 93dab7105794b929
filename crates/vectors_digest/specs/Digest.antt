-- The digest of a list of words: docs/ORACLE.md, "The pairing".
use mathlib.Core.List.{List, foldl}
use Rattle.std.specs.Prelude.{ℕ}
use Rattle.std.specs.Int.Bits.{bit_xor}
use Rattle.vectors_digest.specs.Random.{next}

-- a word joined to a digest
abbrev pub joined : ℕ → ℕ → ℕ
joined d w = next (bit_xor d w)

-- the digest of a list, from that of the lists before it on; `word` gives the word of an element
unfoldable pub digest : {A : Type 0} → (A → ℕ) → ℕ → List A → ℕ
digest word start l = foldl (λ d x. joined d (word x)) start l

-- a number is its own word
abbrev pub digest_of_numbers : ℕ → List ℕ → ℕ
digest_of_numbers start l = digest (λ n. n) start l
