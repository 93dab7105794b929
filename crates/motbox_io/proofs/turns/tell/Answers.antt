-- `turns::tell` is safe. Assumes nothing.
use Rattle.motbox_io.specs.Turn.{held}
use Rattle.motbox_io.proofs.TurnLaws.{line-front}
use Rattle.motbox_io.proofs.turns.tell.Goals as goal

pub slice_bounds-explain-end : goal.slice_bounds-explain-end
slice_bounds-explain-end c =
    let s = c.args in
    line-front (held s.p s.input.now) c.line_length-n.ensures
