-- `lines::put_explanation` meets its contract: its three parts, one behind the other. Assumes nothing.
use Rattle.std.proofs.Common.{refl, arith}
use Rattle.why_words.specs.Words.{explanation_line}
use Rattle.why_words.proofs.PutLaws.{puts_length, puts_next, puts_then}
use Rattle.why_words.proofs.lines.put_explanation.Goals as goal

pub put_head-told-requires : goal.put_head-told-requires
put_head-told-requires c = omega (arith, c.requires)

pub put_fate-scores-requires : goal.put_fate-scores-requires
put_fate-scores-requires c = omega (arith, c.requires, puts_next c.put_head-told.ensures 53 refl)

pub put_scores-requires : goal.put_scores-requires
put_scores-requires c = omega (arith, c.requires, puts_next c.put_fate-scores.ensures 193 refl, puts_next c.put_head-told.ensures 53 refl)

pub returns : goal.returns
unfolding explanation_line
returns c = puts_then c.put_head-told.ensures (puts_then c.put_fate-scores.ensures c.put_scores.ensures)

pub shape_of-text : goal.shape_of-text
shape_of-text c = puts_length (returns c)
