-- `lines::write_explanation` meets its contract. Assumes nothing.
use Rattle.why_words.proofs.PutLaws.{puts_length, line-written, line-short}
use Rattle.why_words.proofs.lines.write_explanation.Goals as goal

pub returns-then-text-lt-LINE_MOST : goal.returns-then-text-lt-LINE_MOST
returns-then-text-lt-LINE_MOST c = line-short _ _ c.if-text-lt-LINE_MOST.true

pub put_explanation-requires : goal.put_explanation-requires
put_explanation-requires c = c.if-text-lt-LINE_MOST.false

pub returns : goal.returns
returns c = line-written c.if-text-lt-LINE_MOST.false c.put_explanation.ensures

pub shape_of-text : goal.shape_of-text
shape_of-text c = puts_length c.put_explanation.ensures
