-- `turns::take` meets its contract: each return is a case of the definition. Assumes nothing.
use Rattle.motbox_io.specs.Turn.{held}
use Rattle.motbox_io.proofs.TurnLaws.{line-front, stays, none_left, one-taken}
use Rattle.motbox_io.proofs.turns.take.Goals as goal

pub returns-then-not-p : goal.returns-then-not-p
returns-then-not-p c = let s = c.args in stays s.p s.input.now s.out.now c.if-not-p.true

pub returns-then-n-eq0 : goal.returns-then-n-eq0
returns-then-n-eq0 c =
    let s = c.args in
    none_left s.p s.input.now s.out.now c.if-not-p.false c.line_length-n.ensures c.if-n-eq0.true c.done.ensures

pub slice_bounds-mot_line-end : goal.slice_bounds-mot_line-end
slice_bounds-mot_line-end c = let s = c.args in line-front (held s.p s.input.now) c.line_length-n.ensures

pub returns : goal.returns
returns c =
    let s = c.args in
    one-taken s.p s.input.now s.out.now c.if-not-p.false c.line_length-n.ensures c.mot_line-answer.result c.mot_line-answer.new.out c.if-n-eq0.false
    c.mot_line-answer.ensures c.answered.ensures
