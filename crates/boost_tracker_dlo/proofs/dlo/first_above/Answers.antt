-- The answers of `dlo::first_above`: it meets its contract. Its invariant is in Invariants.antt. Assumes nothing.
use Rattle.std.proofs.Common.{◌≡◌, length, arith}
use Rattle.laws.specs.Scan.{scan-begin, scan-done, scan-found, scan-next}
use Rattle.boost_tracker_dlo.proofs.dlo.first_above.Goals as goal

pub returns-then-similarity-threshold : goal.returns-then-similarity-threshold
returns-then-similarity-threshold c = scan-found _ _ c.loop-j.invariant c.loop-j-test.true (rw c.threshold.ensures) c.if-similarity-threshold.true

pub loop-j-preserved : goal.loop-j-preserved
loop-j-preserved c = scan-next _ _ c.loop-j.invariant c.loop-j-test.true (rw c.threshold.ensures) c.if-similarity-threshold.false

pub loop-j-init : goal.loop-j-init
loop-j-init c = scan-begin _ _

pub returns : goal.returns
returns c =
    let at = c.loop-j in
    let all : at.j ≡ length c.args.row.now = omega (arith, c.loop-j-test.false, at.invariant.upto) in
    rw all at (scan-done _ _ at.invariant c.loop-j-test.false)
