-- `lines::put_lines` meets its contract. The loop's invariant: the lines of the records before k are written, and the next starts at `at`. Assumes nothing.
use native.Mathlib.Omega.{arith}
use Rattle.trackbox_feed.proofs.LineLaws.{lining_start, lining_on, lining_end}
use Rattle.trackbox_feed.proofs.lines.put_lines.Goals as goal

pub put_line-at-requires : goal.put_line-at-requires
put_line-at-requires c =
    let inv = c.loop-k.invariant in
    omega (arith, c.loop-k-test.true, inv.low, inv.same, c.requires.1)

pub loop-k-preserved : goal.loop-k-preserved
loop-k-preserved c =
    let wrote = c.put_line-at.ensures in
    lining_on c.loop-k.invariant c.loop-k-test.true c.requires.1 c.track.ensures wrote.put wrote.upper_bound

pub loop-k-init : goal.loop-k-init
loop-k-init c = lining_start _ _ _

pub track-requires : goal.track-requires
track-requires c = omega (arith, c.loop-k-test.true, c.requires.0)

pub shape_of-text : goal.shape_of-text
shape_of-text c = c.loop-k.invariant.same

pub returns : goal.returns
returns c = lining_end c.loop-k.invariant c.loop-k-test.false
