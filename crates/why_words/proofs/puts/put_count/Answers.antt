-- `puts::put_count` meets its contract: two texts, one behind the other. Assumes nothing.
use Rattle.std.proofs.Common.{refl, arith}
use Rattle.why_words.proofs.PutLaws.{puts_length, puts_next, puts_then}
use Rattle.why_words.proofs.puts.put_count.Goals as goal

pub put_word-then-requires : goal.put_word-then-requires
put_word-then-requires c = omega (arith, c.requires)

pub put_decimal-requires : goal.put_decimal-requires
put_decimal-requires c = omega (arith, c.requires, puts_next c.put_word-then.ensures _ refl)

pub returns : goal.returns
returns c = puts_then c.put_word-then.ensures c.put_decimal.ensures

pub shape_of-text : goal.shape_of-text
shape_of-text c = puts_length (returns c)
