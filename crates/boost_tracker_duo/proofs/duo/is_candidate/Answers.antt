-- The answers of `duo::is_candidate`: it meets its contract: the definition's two tests. Assumes nothing.
use mathlib.Core.Path.{◌∙◌}
use Prim.Native.Nat.{◌*◌}
use native.Mathlib.Omega.{arith}
use Rattle.laws.specs.Grid.{row_ends}
use Rattle.boost_tracker_duo.specs.Duo.{is_candidate, min_mh_dist}
use Rattle.boost_tracker_duo.proofs.CandidateLaws.{least-is}
use Rattle.boost_tracker_duo.proofs.duo.is_candidate.Goals as goal

pub returns : goal.returns
unfolding is_candidate min_mh_dist
returns c =
    let w = c.args in
    rw (c.min_mh_dist.ensures ∙ least-is w.distance.now (w.i * w.tracks) w.tracks (omega (arith, row_ends _ w.tracks w.i c.requires.0, c.requires.1)))
