-- `lines::put_rejected` meets its contract. Assumes nothing.
use Rattle.std.proofs.Common.{refl, arith}
use Rattle.why_words.specs.Words.{ascii, rejected_text}
use Rattle.why_words.proofs.PutLaws.{puts_next, puts_then}
use Rattle.why_words.proofs.lines.put_rejected.Goals as goal

pub put_count-pair-requires : goal.put_count-pair-requires
put_count-pair-requires c = omega (arith, c.requires)

pub put_count-overlap-requires : goal.put_count-overlap-requires
put_count-overlap-requires c = omega (arith, c.requires, puts_next c.put_count-pair.ensures 34 refl)

pub put_overlap-requires : goal.put_overlap-requires
put_overlap-requires c = omega (arith, c.requires, puts_next c.put_count-overlap.ensures 49 refl, puts_next c.put_count-pair.ensures 34 refl)

pub returns : goal.returns
unfolding ascii rejected_text
returns c = puts_then c.put_count-pair.ensures (puts_then c.put_count-overlap.ensures c.put_overlap.ensures)
