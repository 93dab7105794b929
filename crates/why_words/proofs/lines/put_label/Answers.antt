-- `lines::put_label` meets its contract: nothing is written of equal labels. Assumes nothing.
use Rattle.std.proofs.Common.{arith}
use Rattle.why_words.specs.Words.{ascii}
use Rattle.why_words.proofs.PutLaws.{puts_none}
use Rattle.why_words.proofs.lines.put_label.Goals as goal

pub returns-then-alike : goal.returns-then-alike
returns-then-alike c = rw c.if-alike.true (puts_none _ _ (omega (arith, c.requires)))

pub returns : goal.returns
unfolding ascii
returns c = rw c.if-alike.false c.put_word.ensures
