-- `lines::put_fate` meets its contract: the words of each fate. Assumes nothing.
use Rattle.std.proofs.Common.{arith}
use Rattle.why_words.specs.Words.{ascii}
use Rattle.why_words.proofs.PutLaws.{puts_few}
use Rattle.why_words.proofs.lines.put_fate.Goals as goal

pub put_matched-requires : goal.put_matched-requires
put_matched-requires c = omega (arith, c.requires)

pub put_started-requires : goal.put_started-requires
put_started-requires c = omega (arith, c.requires)

pub put_word-requires : goal.put_word-requires
put_word-requires c = omega (arith, c.requires)

pub returns-in-Matched : goal.returns-in-Matched
returns-in-Matched c = rw c.in-Matched.is (puts_few c.put_matched.ensures (omega arith))

pub returns-in-Started : goal.returns-in-Started
returns-in-Started c = rw c.in-Started.is (puts_few c.put_started.ensures (omega arith))

pub returns-in-UnderThreshold : goal.returns-in-UnderThreshold
unfolding ascii
returns-in-UnderThreshold c = rw c.in-UnderThreshold.is (puts_few c.put_word.ensures (omega arith))

pub returns-in-Rejected : goal.returns-in-Rejected
returns-in-Rejected c = rw c.in-Rejected.is c.put_rejected.ensures
