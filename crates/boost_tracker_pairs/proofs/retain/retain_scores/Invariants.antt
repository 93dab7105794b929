-- `retain::retain_scores` meets its contract. The loop's invariant: of the scores before i those of retained boxes are in the front, w of them. Assumes nothing.
use lib.ListN.{length}
use Rattle.boost_tracker_pairs.proofs.RetainLaws.{Scoring}
use Rattle.boost_tracker_pairs.proofs.retain.retain_scores.Given as goal

abbrev pub invariant-loop-i : goal.invariant-loop-i
invariant-loop-i l = Scoring l.thresh l.initial.scores (length l.initial.scores) l.i l.w l.scores
