-- `workable::six_finite` meets its contract. Assumes nothing.
use lib.Ieee.Scale.{finite}
use Rattle.boost_tracker_verdict.proofs.Finite.{every_six}
use Rattle.boost_tracker_verdict.proofs.workable.six_finite.Goals as goal

pub returns : goal.returns
returns c =
    every_six finite
    c.finite.ensures
    c.finite-2.ensures
    c.finite-3.ensures
    c.finite-4.ensures
    c.finite-5.ensures
    c.finite-6.ensures
