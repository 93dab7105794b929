-- `line::box_of` meets its contract: field after field is read, or the line has not these forms. Assumes nothing.
use mathlib.Core.Path.{refl, ◌∙◌}
use Rattle.mot_line.specs.Private.{box_forms}
use Rattle.mot_line.proofs.Reaching.{number-within, number_stops, number-is, reach_start, reach-number, reach_off}
use Rattle.mot_line.proofs.Lines.{no-box, a-box, no-coordinates}
use Rattle.mot_line.proofs.line.box_of.Goals as goal

pub slice_bounds-from_top-count : goal.slice_bounds-from_top-count
slice_bounds-from_top-count c = number-within _ c.in_ok-left.ensures

pub slice_bounds-from_top-start : goal.slice_bounds-from_top-start
slice_bounds-from_top-start c = number-within _ c.in_ok-left.ensures

pub slice_bounds-from_width-count : goal.slice_bounds-from_width-count
slice_bounds-from_width-count c = number-within _ c.in_ok-top.ensures

pub slice_bounds-from_width-start : goal.slice_bounds-from_width-start
slice_bounds-from_width-start c = number-within _ c.in_ok-top.ensures

pub slice_bounds-from_height-count : goal.slice_bounds-from_height-count
slice_bounds-from_height-count c = number-within _ c.in_ok-width.ensures

pub slice_bounds-from_height-start : goal.slice_bounds-from_height-start
slice_bounds-from_height-start c = number-within _ c.in_ok-width.ensures

pub slice_bounds-from_score-count : goal.slice_bounds-from_score-count
slice_bounds-from_score-count c = number-within _ c.in_ok-height.ensures

pub slice_bounds-from_score-start : goal.slice_bounds-from_score-start
slice_bounds-from_score-start c = number-within _ c.in_ok-height.ensures

pub slice_bounds-coordinates-count : goal.slice_bounds-coordinates-count
slice_bounds-coordinates-count c = number-within _ c.in_ok-score.ensures

pub slice_bounds-coordinates-start : goal.slice_bounds-coordinates-start
slice_bounds-coordinates-start c = number-within _ c.in_ok-score.ensures

pub returns-in_err-left : goal.returns-in_err-left
returns-in_err-left c = c.from_residual.ensures ∙ no-box c.args.frame c.args.rest.now (reach_off (reach_start c.args.rest.now box_forms) refl (number_stops _ c.in_err-left.ensures))

pub returns-in_err-top : goal.returns-in_err-top
returns-in_err-top c = c.from_residual-in_err-top.ensures ∙ no-box c.args.frame c.args.rest.now (reach_off (reach-number (reach_start c.args.rest.now box_forms) c.in_ok-left.ensures) refl (number_stops _ c.in_err-top.ensures))

pub returns-in_err-width : goal.returns-in_err-width
returns-in_err-width c = c.from_residual-in_err-width.ensures ∙ no-box c.args.frame c.args.rest.now (reach_off (reach-number (reach-number (reach_start c.args.rest.now box_forms) c.in_ok-left.ensures) c.in_ok-top.ensures) refl (number_stops _ c.in_err-width.ensures))

pub returns-in_err-height : goal.returns-in_err-height
returns-in_err-height c =
    let three = reach-number (reach-number (reach-number (reach_start c.args.rest.now box_forms) c.in_ok-left.ensures) c.in_ok-top.ensures) c.in_ok-width.ensures in
    c.from_residual-in_err-height.ensures ∙ no-box c.args.frame c.args.rest.now (reach_off three refl (number_stops _ c.in_err-height.ensures))

pub returns-in_err-score : goal.returns-in_err-score
returns-in_err-score c =
    let three = reach-number (reach-number (reach-number (reach_start c.args.rest.now box_forms) c.in_ok-left.ensures) c.in_ok-top.ensures) c.in_ok-width.ensures in
    c.from_residual-in_err-score.ensures ∙ no-box c.args.frame c.args.rest.now (reach_off (reach-number three c.in_ok-height.ensures) refl (number_stops _ c.in_err-score.ensures))

pub returns-then-not-coordinates : goal.returns-then-not-coordinates
returns-then-not-coordinates c =
    let three = reach-number (reach-number (reach-number (reach_start c.args.rest.now box_forms) c.in_ok-left.ensures) c.in_ok-top.ensures) c.in_ok-width.ensures in
    let all = reach-number (reach-number three c.in_ok-height.ensures) c.in_ok-score.ensures in
    no-coordinates c.args.frame c.args.rest.now _ _ all c.coordinates.result c.coordinates.ensures c.if-not-coordinates.true

pub returns : goal.returns
returns c =
    let three = reach-number (reach-number (reach-number (reach_start c.args.rest.now box_forms) c.in_ok-left.ensures) c.in_ok-top.ensures) c.in_ok-width.ensures in
    let all = reach-number (reach-number three c.in_ok-height.ensures) c.in_ok-score.ensures in
    a-box c.args.frame c.args.rest.now _ _ _ _ _ _ all _ _ _ _ _
    (number-is _ c.in_ok-left.ensures) (number-is _ c.in_ok-top.ensures) (number-is _ c.in_ok-width.ensures) (number-is _ c.in_ok-height.ensures) (number-is _ c.in_ok-score.ensures)
    c.coordinates.result c.coordinates.ensures c.if-not-coordinates.false
