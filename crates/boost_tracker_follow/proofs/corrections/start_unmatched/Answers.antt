-- `corrections::start_unmatched` meets its contract. The loop's invariant: the first k boxes have their tracks behind those held, with the ids after `last` up to `id`. Assumes nothing.
use native.Mathlib.Omega.{arith}
use Rattle.boost_tracker_follow.proofs.FollowLaws.{start-start, start-on, start-end}
use Rattle.boost_tracker_follow.proofs.corrections.start_unmatched.Goals as goal

pub loop-k-preserved : goal.loop-k-preserved
loop-k-preserved c =
    let a = c.args in
    start-on a.last a.corners.now a.unmatched.now a.held a.floats.now a.counters.now c.requires.sizes.0
    c.loop-k.invariant c.loop-k-test.true c.det.ensures c.new-t.ensures
    c.append.ensures

pub returns : goal.returns
returns c =
    let a = c.args in
    start-end a.last a.corners.now a.unmatched.now a.held a.floats.now a.counters.now c.requires.sizes.0 c.loop-k.invariant c.loop-k-test.false

pub loop-k-init : goal.loop-k-init
loop-k-init c = let a = c.args in start-start a.last a.corners.now a.unmatched.now a.held a.floats.now a.counters.now c.requires.sizes.0

pub overflow_add-id : goal.overflow_add-id
overflow_add-id c = omega (arith, c.loop-k-test.true, c.loop-k.invariant.id_is, c.requires.sizes.0, c.requires.sizes.1)

pub det-requires : goal.det-requires
det-requires c = c.requires.within c.loop-k.k c.loop-k-test.true

pub overflow_add-held : goal.overflow_add-held
overflow_add-held c = omega (arith, c.loop-k-test.true, c.requires.sizes.0)
