-- `puts::put_fixed` meets its contract: the whole part, and the fraction behind it. Assumes nothing.
use Rattle.std.proofs.Common.{refl, arith}
use Rattle.why_words.specs.Words.{fixed}
use Rattle.why_words.proofs.PutLaws.{puts_length, puts_next, puts_then}
use Rattle.why_words.proofs.puts.put_fixed.Goals as goal

pub put_decimal-point-requires : goal.put_decimal-point-requires
put_decimal-point-requires c = omega (arith, c.requires)

pub put_fraction-requires-clause-fact_1 : goal.put_fraction-requires-clause-fact_1
put_fraction-requires-clause-fact_1 c = omega (arith, c.requires, puts_next c.put_decimal-point.ensures 20 refl)

pub returns : goal.returns
unfolding fixed
returns c = puts_then c.put_decimal-point.ensures c.put_fraction.ensures

pub shape_of-text : goal.shape_of-text
shape_of-text c = puts_length (returns c)
