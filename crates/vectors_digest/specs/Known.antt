-- Worked examples: the definitions yield them by computation.
use Rattle.std.specs.Prelude.{◌≡◌, refl, [], ◌∷◌}
use Rattle.std.specs.Float.{nan}
use Rattle.std.specs.Float.Ieee.{of_bits, to_bits, eq}
use Rattle.vectors_digest.specs.Random.{next}
use Rattle.vectors_digest.specs.Floats.{float, word, wide_word}
use Rattle.vectors_digest.specs.Digest.{joined, digest, digest_of_numbers}

pub next_known : next 1 ≡ 0x4082_2041
unfolding next
next_known = refl

pub words_known : word nan ∷ word (float 0x8000_0000) ∷ word (float 0xbf80_0000) ∷ wide_word nan ∷ [] ≡ 0x7fc0_0000 ∷ 0 ∷ 0xbf80_0000 ∷ 0x7ff8_0000_0000_0000 ∷ []
unfolding word eq of_bits to_bits
words_known = refl

-- no word; two words, and one after the other
pub digest-none : digest_of_numbers 1 [] ≡ 1
unfolding digest
digest-none = refl

pub digest-two : digest_of_numbers 1 (0 ∷ 7 ∷ []) ≡ digest_of_numbers 0x4082_2041 (7 ∷ [])
unfolding digest joined next
digest-two = refl
