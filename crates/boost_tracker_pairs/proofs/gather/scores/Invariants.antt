-- `gather::scores` meets its contract. The loop's invariant: the scores of the first i objects are stored, and the others as they were. Assumes nothing.
use lib.ListN.{length}
use Rattle.laws.specs.Tab.{Filling}
use Rattle.boost_tracker_definition.specs.Update.{prob_of}
use Rattle.boost_tracker_pairs.proofs.gather.scores.Given as goal

abbrev pub invariant-loop-i : goal.invariant-loop-i
invariant-loop-i l = Filling (prob_of l.objects) l.initial.out (length l.initial.out) l.i l.out
