-- `bedside::filter::bedside_pair_correct` meets its contract. Assumes nothing.
use mathlib.Core.Path.{ap, ◌∙◌}
use Rattle.bedside_answers.specs.Filter.{in_c}
use Rattle.bedside.proofs.filter.bedside_pair_correct.Goals as goal

pub returns : goal.returns
returns c = c.from.ensures ∙ ap in_c c.correct.ensures
