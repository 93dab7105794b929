-- `vectors_digest::floats::wide_word` meets its contract: `x != x` holds of the one NaN alone. Assumes nothing.
use lib.Ieee.{binary64, to_bits}
use Rattle.vectors_digest.proofs.Patterns.{number, bits_of_nan}
use Rattle.vectors_digest.proofs.floats.wide_word.Goals as goal

pub returns-then-x : goal.returns-then-x
unfolding to_bits
returns-then-x c = bits_of_nan binary64 _ c.if-x.true

pub float_to_bits-result : goal.float_to_bits-result
float_to_bits-result c = number _ c.if-x.false
