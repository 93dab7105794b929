-- The invariant of `duo::Candidates::mark_remaining`: the first i marks are stored, and the others as they were. Assumes nothing.
use Rattle.std.proofs.Common.{length}
use Rattle.boost_tracker_duo.specs.Private.{remains}
use Rattle.laws.specs.Tab.{Filling}
use Rattle.boost_tracker_duo.proofs.duo.Candidates.mark_remaining.Given as goal

abbrev pub invariant-loop-i : goal.invariant-loop-i
invariant-loop-i l = Filling (remains l.self.corners.now l.self.max.now l.self.boxes.now l.self.scores.now) l.initial.marks (length l.initial.marks) l.i l.marks
