-- `line::coordinates` meets its contract: field after field is read, or the line has not these forms. Assumes nothing.
use mathlib.Core.Path.{refl, sym, ◌∙◌}
use Rattle.mot_fields.proofs.Theorem.{laws}
use Rattle.mot_line.specs.Private.{coordinates}
use Rattle.mot_line.proofs.Reaching.{minus-one-within, minus-one_stops, reach_start, reach-minus-one, reach_off}
use Rattle.mot_line.proofs.line.coordinates.Goals as goal

pub slice_bounds-from_y-count : goal.slice_bounds-from_y-count
slice_bounds-from_y-count c = minus-one-within _ c.in-Some.ensures

pub slice_bounds-from_y-start : goal.slice_bounds-from_y-start
slice_bounds-from_y-start c = minus-one-within _ c.in-Some.ensures

pub slice_bounds-minus_one-count : goal.slice_bounds-minus_one-count
slice_bounds-minus_one-count c = minus-one-within _ c.in-Some-minus_one_field.ensures

pub slice_bounds-minus_one-start : goal.slice_bounds-minus_one-start
slice_bounds-minus_one-start c = minus-one-within _ c.in-Some-minus_one_field.ensures

pub returns-in_default : goal.returns-in_default
returns-in_default c = sym (reach_off (reach_start c.args.rest.now coordinates) refl (minus-one_stops _ c.in_default.ensures))

pub returns-in_default-minus_one_field : goal.returns-in_default-minus_one_field
returns-in_default-minus_one_field c =
    sym (reach_off (reach-minus-one (reach_start c.args.rest.now coordinates) c.in-Some.ensures) refl (minus-one_stops _ c.in_default-minus_one_field.ensures))

pub returns : goal.returns
returns c =
    let end = reach-minus-one (reach-minus-one (reach_start c.args.rest.now coordinates) c.in-Some.ensures) c.in-Some-minus_one_field.ensures in
    c.minus_one.ensures ∙ sym (laws.last-minus-one _) ∙ sym end.asked
