-- `gather::since` meets its contract. The loop's invariant: the times of the first j tracks are stored, and the others as they were. Assumes nothing.
use Rattle.laws.specs.Tab.{Filling}
use Rattle.boost_tracker_definition.specs.Update.{tracker_at}
use Rattle.boost_tracker_pairs.specs.Private.{predicted_in}
use Rattle.boost_tracker_pairs.proofs.gather.since.Given as goal

abbrev pub invariant-loop-j : goal.invariant-loop-j
invariant-loop-j l = Filling (λ k. (tracker_at (predicted_in l.floats l.counters l.held) k).since) l.initial.out l.held l.j l.out
