-- `gather::since` meets its contract. The loop's invariant: the times of the first j tracks are stored, and the others as they were. Assumes nothing.
use mathlib.Core.Path.{◌∙◌, sym}
use native.Mathlib.Nat.{le_of_eq}
use native.Mathlib.Omega.{arith}
use Rattle.laws.specs.Tab.{fill_on, fill_start, fill_whole}
use Rattle.boost_tracker_pairs.specs.Private.{predicted_in}
use Rattle.boost_tracker_pairs.proofs.GatherLaws.{predicted-many, since_are}
use Rattle.boost_tracker_pairs.proofs.gather.since.Goals as goal

pub loop-j-init : goal.loop-j-init
loop-j-init c = fill_start _ _ _

pub since_at-time-requires : goal.since_at-time-requires
since_at-time-requires c = (c.loop-j-test.true, c.requires.sizes.1)

pub overflow_cast-out : goal.overflow_cast-out
overflow_cast-out c = let low = c.requires.low c.loop-j.j c.loop-j-test.true in rw c.since_at-time.ensures (omega (arith, low))

pub offset_bounds-out-j : goal.offset_bounds-out-j
offset_bounds-out-j c = omega (arith, c.loop-j-test.true, c.loop-j.invariant.same, c.requires.sizes.0)

pub bounds-out-j : goal.bounds-out-j
bounds-out-j c = omega (arith, c.loop-j-test.true, c.loop-j.invariant.same, c.requires.sizes.0)

pub loop-j-preserved : goal.loop-j-preserved
loop-j-preserved c = fill_on _ _ _ c.loop-j.invariant c.loop-j-test.true (le_of_eq (sym c.requires.sizes.0)) c.since_at-time.ensures

pub returns : goal.returns
returns c =
    let a = c.args in
    fill_whole _ _ _ c.loop-j.invariant c.loop-j-test.false c.requires.sizes.0 ∙ since_are (predicted_in a.floats.now a.counters.now a.held) a.held (predicted-many a.floats.now a.counters.now a.held c.requires.sizes.1)
