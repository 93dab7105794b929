-- `vectors_digest::floats::float_of` meets its contract: the patterns above that of an infinity, the sign aside, are those of a NaN. Assumes nothing.
use Rattle.vectors_digest.proofs.Patterns.{no_nan, nan_float}
use Rattle.vectors_digest.proofs.floats.float_of.Goals as goal

pub returns-then-bits-gt2139095040 : goal.returns-then-bits-gt2139095040
returns-then-bits-gt2139095040 c = nan_float _ c.if-bits-gt2139095040.true

pub float_from_bits-result : goal.float_from_bits-result
float_from_bits-result c = no_nan _ c.if-bits-gt2139095040.false
