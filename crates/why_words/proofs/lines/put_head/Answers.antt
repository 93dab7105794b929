-- `lines::put_head` meets its contract. Assumes nothing.
use Rattle.std.proofs.Common.{refl, arith}
use Rattle.why_words.specs.Words.{ascii, head}
use Rattle.why_words.proofs.PutLaws.{puts_next, puts_then}
use Rattle.why_words.proofs.lines.put_head.Goals as goal

pub put_count-at1-requires : goal.put_count-at1-requires
put_count-at1-requires c = omega (arith, c.requires)

pub put_count-at2-requires : goal.put_count-at2-requires
put_count-at2-requires c = omega (arith, c.requires, puts_next c.put_count-at1.ensures 26 refl)

pub put_word-requires : goal.put_word-requires
put_word-requires c = omega (arith, c.requires, puts_next c.put_count-at2.ensures 25 refl, puts_next c.put_count-at1.ensures 26 refl)

pub returns : goal.returns
unfolding ascii head
returns c = puts_then c.put_count-at1.ensures (puts_then c.put_count-at2.ensures c.put_word.ensures)
