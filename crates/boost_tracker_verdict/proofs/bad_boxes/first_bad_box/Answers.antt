-- `bad_boxes::first_bad_box` meets its contract. The loop's invariant: no box before i is bad. Assumes nothing.
use Rattle.laws.specs.Scan.{scan-next, scan-found, scan-done}
use Rattle.std.proofs.Common.{◌≡◌, arith}
use Rattle.boost_tracker_verdict.proofs.bad_boxes.first_bad_box.Goals as goal

pub returns-then-bad_box_at : goal.returns-then-bad_box_at
returns-then-bad_box_at c = scan-found _ _ c.loop-i.invariant c.loop-i-test.true c.bad_box_at.ensures c.if-bad_box_at.true

pub loop-i-preserved : goal.loop-i-preserved
loop-i-preserved c = scan-next _ _ c.loop-i.invariant c.loop-i-test.true c.bad_box_at.ensures c.if-bad_box_at.false

pub returns : goal.returns
returns c =
    let at = c.loop-i in
    let all : at.i ≡ c.args.n = omega (arith, c.loop-i-test.false, at.invariant.upto) in
    rw all at (scan-done _ _ at.invariant c.loop-i-test.false)
