-- `lines::put_started` meets its contract. Assumes nothing.
use Rattle.std.proofs.Common.{refl, arith}
use Rattle.why_words.specs.Words.{ascii, started_text}
use Rattle.why_words.proofs.PutLaws.{puts_next, puts_then}
use Rattle.why_words.proofs.lines.put_started.Goals as goal

pub put_count-alone-requires : goal.put_count-alone-requires
put_count-alone-requires c = omega (arith, c.requires)

pub put_word-requires : goal.put_word-requires
put_word-requires c = omega (arith, c.requires, puts_next c.put_count-alone.ensures 34 refl)

pub returns : goal.returns
unfolding ascii started_text
returns c = puts_then c.put_count-alone.ensures c.put_word.ensures
