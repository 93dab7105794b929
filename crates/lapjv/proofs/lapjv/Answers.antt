-- `lapjv` meets its contract: the definition's assignment where the verdict is that the call fits, and no store where it is not. Assumes nothing.
use mathlib.Core.Path.{sym, ◌∙◌}
use Rattle.lapjv.proofs.AnswerLaws.{refuse_with, accept}
use Rattle.lapjv.proofs.lapjv.Goals as goal

pub returns-in_err-verdict_of : goal.returns-in_err-verdict_of
returns-in_err-verdict_of c = refuse_with (sym c.verdict_of.ensures ∙ c.in_err-verdict_of.was) (c.from_residual.ensures.1)

pub returns : goal.returns
returns c = accept (sym c.verdict_of.ensures ∙ c.in_ok-verdict_of.was) c.assign.ensures
