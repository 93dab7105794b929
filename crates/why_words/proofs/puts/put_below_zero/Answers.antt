-- `puts::put_below_zero` meets its contract: the sign, and the number behind it. Assumes nothing.
use Rattle.std.proofs.Common.{refl, arith}
use Rattle.why_words.proofs.PutLaws.{puts_next, puts_then}
use Rattle.why_words.proofs.puts.put_below_zero.Goals as goal

pub put_word-from-requires : goal.put_word-from-requires
put_word-from-requires c = omega (arith, c.requires)

pub put_fixed-requires : goal.put_fixed-requires
put_fixed-requires c = omega (arith, c.requires, puts_next c.put_word-from.ensures 1 refl)

pub returns : goal.returns
returns c = puts_then c.put_word-from.ensures c.put_fixed.ensures
