-- `lines::write_no_box` meets its contract. Assumes nothing.
use Rattle.why_words.proofs.PutLaws.{puts_length, line-written, line-short}
use Rattle.why_words.proofs.lines.write_no_box.Goals as goal

pub returns-then-text-lt-LINE_MOST : goal.returns-then-text-lt-LINE_MOST
returns-then-text-lt-LINE_MOST c = line-short _ _ c.if-text-lt-LINE_MOST.true

pub put_no_box-requires : goal.put_no_box-requires
put_no_box-requires c = c.if-text-lt-LINE_MOST.false

pub returns : goal.returns
returns c = line-written c.if-text-lt-LINE_MOST.false c.put_no_box.ensures

pub shape_of-text : goal.shape_of-text
shape_of-text c = puts_length c.put_no_box.ensures
