-- `corrections::put_labels` meets its contract. The loop's invariant: the labels of the first k boxes are stored, and the others as they were. Assumes nothing.
use lib.ListN.{get_or, length}
use Rattle.laws.specs.Tab.{Filling}
use Rattle.labels.specs.Label.{label_at}
use Rattle.boost_tracker_follow.proofs.corrections.put_labels.Given as goal

abbrev pub invariant-loop-k : goal.invariant-loop-k
invariant-loop-k l = Filling (λ j. label_at l.box_labels (get_or l.list j 0)) l.initial.out (length l.list) l.k l.out
