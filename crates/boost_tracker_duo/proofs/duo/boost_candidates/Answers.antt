-- The answers of `duo::boost_candidates`: it meets its contract. Its invariant is in Invariants.antt. Assumes nothing.
use native.Mathlib.Omega.{arith}
use Rattle.boost_tracker_duo.specs.Duo.{boost_candidates}
use Rattle.laws.specs.Collecting.{collect_end, collect_on, collect_start}
use Rattle.boost_tracker_duo.proofs.duo.boost_candidates.Goals as goal

pub loop-i-preserved : goal.loop-i-preserved
loop-i-preserved c = collect_on c.loop-i.invariant c.loop-i-test.true (omega (arith, c.requires.0)) c.is_candidate.ensures c.push-k.ensures

pub returns : goal.returns
unfolding boost_candidates
returns c = collect_end c.loop-i.invariant c.loop-i-test.false

pub loop-i-init : goal.loop-i-init
loop-i-init c = collect_start
