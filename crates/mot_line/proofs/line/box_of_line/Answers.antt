-- `line::box_of_line` meets its contract: the line feed is the last byte. Assumes nothing.
use mathlib.Core.Path.{sym}
use native.Mathlib.Omega.{arith}
use lib.Seq.{length-take-le}
use Rattle.mot_line.proofs.Lines.{no_line, no-feed, a-line}
use Rattle.mot_line.proofs.line.box_of_line.Goals as goal

pub returns-then-n-eq0 : goal.returns-then-n-eq0
returns-then-n-eq0 c = no_line c.args.line.now c.if-n-eq0.true

pub returns-then-line-end-ne10 : goal.returns-then-line-end-ne10
returns-then-line-end-ne10 c = no-feed c.args.line.now (λ h. omega (arith, h, c.if-line-end-ne10.true))

pub slice_bounds-box_of_body-end : goal.slice_bounds-box_of_body-end
slice_bounds-box_of_body-end c = sym (length-take-le _ _ (omega arith))

pub returns : goal.returns
returns c = a-line c.args.line.now c.if-line-end-ne10.false c.box_of_body.result c.box_of_body.ensures
