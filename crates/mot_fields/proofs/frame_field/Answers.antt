-- `mot_fields::frame_field` meets its contract: the first field decides. Assumes nothing.
use mathlib.Core.Path.{◌∙◌}
use Rattle.mot_number.specs.Number.{is_frame, frame_of, frame_number}
use Rattle.mot_fields.specs.Reading.{frame_field}
use Rattle.mot_fields.proofs.Returns.{none-follows, no-field, a-field}
use Rattle.mot_fields.proofs.frame_field.Goals as goal

pub returns-in_err-text : goal.returns-in_err-text
unfolding frame_field
returns-in_err-text c = rw (none-follows is_frame _ c.in_err-text.ensures) c.from_residual.ensures

pub returns-in_err-value : goal.returns-in_err-value
unfolding frame_field frame_number
returns-in_err-value c = c.from_residual-in_err-value.ensures ∙ no-field c.in_ok-text.ensures is_frame frame_of c.frame_of.result c.frame_of.ensures c.in_err-value.was

pub returns : goal.returns
unfolding frame_field frame_number
returns c = a-field c.in_ok-text.ensures is_frame frame_of c.frame_of.result c.frame_of.ensures c.in_ok-value.value c.in_ok-value.was
