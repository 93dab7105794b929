-- `retain::retain_labels` meets its contract. The loop's invariant: of the boxes before i the labels of the retained are in the front, w of them. Assumes nothing.
use Rattle.boost_tracker_pairs.proofs.RetainLaws.{Labelling}
use Rattle.boost_tracker_pairs.proofs.retain.retain_labels.Given as goal

abbrev pub invariant-loop-i : goal.invariant-loop-i
invariant-loop-i l = Labelling l.thresh l.scores l.box_labels l.initial.out l.i l.w l.out
