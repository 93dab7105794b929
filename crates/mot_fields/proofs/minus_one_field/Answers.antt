-- `mot_fields::minus_one_field` meets its contract: the first field decides. Assumes nothing.
use mathlib.Core.Path.{◌∙◌}
use Rattle.mot_fields.specs.Fields.{is_minus_one}
use Rattle.mot_fields.specs.Reading.{minus_one_field}
use Rattle.mot_fields.proofs.Returns.{none-follows, at_minus_one}
use Rattle.mot_fields.proofs.minus_one_field.Goals as goal

pub returns-in_err-text : goal.returns-in_err-text
unfolding minus_one_field
returns-in_err-text c = rw (none-follows is_minus_one _ c.in_err-text.ensures) c.from_residual.ensures

pub returns : goal.returns
unfolding minus_one_field
returns c = c.then_some.ensures ∙ at_minus_one c.in_ok-text.ensures c.minus_one.result c.minus_one.ensures
