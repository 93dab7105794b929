-- The invariant of `dlo::first_above`. The loop's invariant: at no track before j is the row above the threshold. Assumes nothing.
use Rattle.std.proofs.Common.{length, get_or}
use lib.Ieee.{lt, nan}
use Rattle.boost_tracker_dlo.specs.Dlo.{threshold}
use Rattle.laws.specs.Scan.{Scanning}
use Rattle.boost_tracker_dlo.proofs.dlo.first_above.Given as goal

abbrev pub invariant-loop-j : goal.invariant-loop-j
invariant-loop-j l = Scanning (λ k. lt (threshold (get_or l.since k 0)) (get_or l.row k nan)) (length l.row) l.j
