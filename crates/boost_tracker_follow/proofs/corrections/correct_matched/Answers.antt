-- `corrections::correct_matched` meets its contract. The loop's invariant: the first k pairs have corrected their tracks. Assumes nothing.
use native.Mathlib.Omega.{arith}
use Rattle.boost_tracker_follow.proofs.FollowLaws.{correct_start, correct_on, correct_end}
use Rattle.boost_tracker_follow.proofs.corrections.correct_matched.Goals as goal

pub loop-k-preserved : goal.loop-k-preserved
loop-k-preserved c =
    let a = c.args in
    correct_on a.corners.now a.pair_boxes.now a.pair_tracks.now a.held a.floats.now a.counters.now c.requires.sizes.0 c.loop-k.invariant c.loop-k-test.true c.det.ensures c.correct.ensures

pub returns : goal.returns
returns c =
    let a = c.args in
    correct_end a.corners.now a.pair_boxes.now a.pair_tracks.now a.held a.floats.now a.counters.now c.requires.sizes.0 c.loop-k.invariant c.loop-k-test.false

pub loop-k-init : goal.loop-k-init
loop-k-init c = let a = c.args in correct_start a.corners.now a.pair_boxes.now a.pair_tracks.now a.held a.floats.now a.counters.now c.requires.sizes.0

pub offset_bounds-pair_tracks-k : goal.offset_bounds-pair_tracks-k
offset_bounds-pair_tracks-k c = omega (arith, c.loop-k-test.true, c.requires.sizes.1)

pub bounds-pair_tracks-k : goal.bounds-pair_tracks-k
bounds-pair_tracks-k c = omega (arith, c.loop-k-test.true, c.requires.sizes.1)

pub offset_bounds-pair_boxes-k : goal.offset_bounds-pair_boxes-k
offset_bounds-pair_boxes-k c = omega (arith, c.loop-k-test.true)

pub bounds-pair_boxes-k : goal.bounds-pair_boxes-k
bounds-pair_boxes-k c = omega (arith, c.loop-k-test.true)

pub det-requires : goal.det-requires
det-requires c = c.requires.within c.loop-k.k c.loop-k-test.true
