-- `puts::put_value` meets its contract: the number by its sign, or that it has none. Assumes nothing.
use Rattle.std.proofs.Common.{arith}
use Rattle.why_words.specs.Words.{ascii}
use Rattle.why_words.proofs.PutLaws.{puts_few}
use Rattle.why_words.proofs.puts.put_value.Goals as goal

pub put_fixed-requires : goal.put_fixed-requires
put_fixed-requires c = omega (arith, c.requires)

pub put_word-requires : goal.put_word-requires
put_word-requires c = omega (arith, c.requires)

pub returns-in-Above : goal.returns-in-Above
returns-in-Above c = rw c.in-Above.is (puts_few c.put_fixed.ensures (omega arith))

pub returns-in-Below : goal.returns-in-Below
returns-in-Below c = rw c.in-Below.is c.put_below_zero.ensures

pub returns-in-Beyond : goal.returns-in-Beyond
unfolding ascii
returns-in-Beyond c = rw c.in-Beyond.is (puts_few c.put_word.ensures (omega arith))
