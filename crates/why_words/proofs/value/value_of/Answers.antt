-- `value::value_of` meets its contract. Assumes nothing.
use Rattle.std.proofs.Common.{ap, ◌∙◌}
use Rattle.why_words.specs.Words.{above, below, whole, value_of}
use Rattle.why_words.proofs.PutLaws.{above_is, below_is}
use Rattle.why_words.proofs.value.value_of.Goals as goal

pub returns-then-x : goal.returns-then-x
unfolding value_of
returns-then-x c = rw c.if-x.true (below_is _ c.map_or.ensures ∙ ap below (c.whole_part.ensures ∙ ap whole c.scaled.ensures))

pub returns : goal.returns
unfolding value_of
returns c = rw c.if-x.false (above_is _ c.map_or-2.ensures ∙ ap above (c.whole_part-2.ensures ∙ ap whole c.scaled-2.ensures))
