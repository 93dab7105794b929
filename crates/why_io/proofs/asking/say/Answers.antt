-- `asking::say` meets its contract. Assumes nothing.
use Rattle.why_io.proofs.SayLaws.{said, silent}
use Rattle.why_io.proofs.asking.say.Goals as goal

pub returns : goal.returns
returns c = said c.if-text-lt-LINE_MOST.false c.say_answer.ensures

pub returns-then-text-lt-LINE_MOST : goal.returns-then-text-lt-LINE_MOST
returns-then-text-lt-LINE_MOST c = silent _ _ c.if-text-lt-LINE_MOST.true

pub say_answer-requires : goal.say_answer-requires
say_answer-requires c = c.if-text-lt-LINE_MOST.false
