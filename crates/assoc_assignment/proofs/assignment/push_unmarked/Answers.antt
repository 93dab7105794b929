-- `assignment::push_unmarked` meets its contract. The loop's invariant: of the places before `i` those that are not marked are pushed, `k` of them. Assumes nothing.
use mathlib.Core.Path.{refl}
use native.Mathlib.Omega.{arith}
use Rattle.laws.specs.Collecting.{collect_start, collect_on, collect_end}
use Rattle.assoc_assignment.proofs.assignment.push_unmarked.Goals as goal

pub loop-i-init : goal.loop-i-init
loop-i-init c = collect_start

pub push-k-requires : goal.push-k-requires
push-k-requires c =
    let w = c.loop-i.invariant in omega (arith, c.loop-i-test.true, w.few, w.pushed.same, c.requires)

pub loop-i-preserved : goal.loop-i-preserved
loop-i-preserved c =
    collect_on c.loop-i.invariant c.loop-i-test.true c.requires refl c.push-k.ensures

pub returns : goal.returns
returns c = collect_end c.loop-i.invariant c.loop-i-test.false
