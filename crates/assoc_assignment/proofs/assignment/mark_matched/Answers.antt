-- `assignment::mark_matched` meets its contract. The loop's invariant: what is marked are the boxes and tracks of the pairs of the rows before `i`. Assumes nothing.
use mathlib.Core.Path.{◌≡◌, sym}
use native.Mathlib.Nat.{le_of_eq}
use native.Mathlib.Omega.{arith}
use lib.ListN.{length}
use Rattle.assoc_assignment.proofs.MarkLaws.{marked_same, mark_start, mark_on}
use Rattle.assoc_assignment.proofs.assignment.mark_matched.Goals as goal

pub loop-i-init : goal.loop-i-init
loop-i-init c = (omega arith, mark_start _ _ _ c.requires.0 c.requires.1)

pub mark-requires : goal.mark-requires
mark-requires c = let same = marked_same c.loop-i.invariant.1 in (omega (arith, c.loop-i-test.true, same.0), le_of_eq (sym same.1))

pub loop-i-preserved : goal.loop-i-preserved
loop-i-preserved c =
    let loop-test = c.loop-i-test in
    (omega (arith, loop-test.true), mark_on _ _ _ c.loop-i.invariant.1 loop-test.true (rw c.from.ensures at c.mark.ensures))

pub returns : goal.returns
returns c =
    let e : c.loop-i.i ≡ length c.args.partner.now = omega (arith, c.loop-i-test.false, c.loop-i.invariant.0) in rw e at c.loop-i.invariant.1
