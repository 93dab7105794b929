-- `line::box_of_body` meets its contract: frame and id are read, or the line has not these forms. Assumes nothing.
use mathlib.Core.Path.{refl, ◌∙◌}
use Rattle.mot_line.specs.Line.{detection}
use Rattle.mot_line.proofs.Reaching.{frame-within, minus-one-within, frame_stops, minus-one_stops, frame-is, reach_start, reach-frame, reach-minus-one, reach_off}
use Rattle.mot_line.proofs.Lines.{no_body, a_body}
use Rattle.mot_line.proofs.line.box_of_body.Goals as goal

pub slice_bounds-from_id-count : goal.slice_bounds-from_id-count
slice_bounds-from_id-count c = frame-within _ c.in_ok-frame.ensures

pub slice_bounds-from_id-start : goal.slice_bounds-from_id-start
slice_bounds-from_id-start c = frame-within _ c.in_ok-frame.ensures

pub slice_bounds-box_of-count : goal.slice_bounds-box_of-count
slice_bounds-box_of-count c = minus-one-within _ c.in_ok-left.ensures

pub slice_bounds-box_of-start : goal.slice_bounds-box_of-start
slice_bounds-box_of-start c = minus-one-within _ c.in_ok-left.ensures

pub returns-in_err-frame : goal.returns-in_err-frame
returns-in_err-frame c = c.from_residual.ensures ∙ no_body c.args.body.now (reach_off (reach_start c.args.body.now detection) refl (frame_stops _ c.in_err-frame.ensures))

pub returns-in_err-left : goal.returns-in_err-left
returns-in_err-left c =
    c.from_residual-in_err-left.ensures ∙ no_body c.args.body.now (reach_off (reach-frame (reach_start c.args.body.now detection) c.in_ok-frame.ensures) refl (minus-one_stops _ c.in_err-left.ensures))

pub returns : goal.returns
returns c =
    a_body c.args.body.now _ _ _ (reach-minus-one (reach-frame (reach_start c.args.body.now detection) c.in_ok-frame.ensures) c.in_ok-left.ensures) _ (frame-is _ c.in_ok-frame.ensures) c.box_of.result c.box_of.ensures
