-- The invariant of `duo::Candidates::conf_row`: `most` is the largest score of the first j candidates that are in args_tmp. Assumes nothing.
use Rattle.std.proofs.Common.{get_or, length}
use lib.Ieee.{nan}
use Rattle.boost_tracker_duo.specs.Duo.{neg_infinity}
use Rattle.boost_tracker_duo.specs.Private.{conf_with}
use Rattle.laws.specs.Folding.{Folding}
use Rattle.boost_tracker_duo.proofs.duo.Candidates.conf_row.Given as goal

abbrev pub invariant-loop-j : goal.invariant-loop-j
invariant-loop-j l =
    Folding (λ m k. conf_with m (get_or l.row k nan) (get_or l.self.max.now k nan) (get_or l.self.scores.now (get_or l.self.boxes.now k 0) nan)) neg_infinity (length l.self.boxes.now) l.j l.most
