-- The invariant of `dlo::boost_rows`: the first i scores are stored, and the others as they were. Assumes nothing.
use Rattle.std.proofs.Common.{length, get_or}
use lib.Ieee.{nan}
use Rattle.boost_tracker_dlo.specs.Private.{boosted_score}
use Rattle.labels.specs.Label.{label_at}
use Rattle.laws.specs.Tab.{Filling}
use Rattle.boost_tracker_dlo.proofs.dlo.boost_rows.Given as goal

abbrev pub invariant-loop-i : goal.invariant-loop-i
invariant-loop-i l =
    Filling (λ k. boosted_score l.q l.detections l.tracks.corners.now l.tracks.confs.now l.mhd l.tracks.since.now (label_at l.box_labels k) l.tracks.labels.now k (get_or l.initial.scores k nan))
    l.initial.scores (length l.initial.scores) l.i l.scores
