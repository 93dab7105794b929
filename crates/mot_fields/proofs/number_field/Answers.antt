-- `mot_fields::number_field` meets its contract: the first field decides. Assumes nothing.
use mathlib.Core.Path.{◌∙◌}
use Rattle.mot_number.specs.Number.{is_number, decimal_of, f32_of, number_of}
use Rattle.mot_fields.specs.Reading.{number_field}
use Rattle.mot_fields.proofs.Returns.{none-follows, no-field, a-field}
use Rattle.mot_fields.proofs.number_field.Goals as goal

pub returns-in_err-text : goal.returns-in_err-text
unfolding number_field
returns-in_err-text c = rw (none-follows is_number _ c.in_err-text.ensures) c.from_residual.ensures

pub returns-in_err-value : goal.returns-in_err-value
unfolding number_field number_of
returns-in_err-value c = c.from_residual-in_err-value.ensures ∙ no-field c.in_ok-text.ensures is_number (λ x. f32_of (decimal_of x)) c.number_of.result c.number_of.ensures c.in_err-value.was

pub returns : goal.returns
unfolding number_field number_of
returns c = a-field c.in_ok-text.ensures is_number (λ x. f32_of (decimal_of x)) c.number_of.result c.number_of.ensures c.in_ok-value.value c.in_ok-value.was
