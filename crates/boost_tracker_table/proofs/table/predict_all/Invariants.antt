-- `table::predict_all` meets its contract. The loop's invariant: the tracks before i are predicted in their places, and the rest is as it was. Assumes nothing.
use Rattle.strack.specs.Strack.{predict}
use Rattle.boost_tracker_table.specs.Table.{track_at}
use Rattle.boost_tracker_table.proofs.Walks.{Walking}
use Rattle.boost_tracker_table.proofs.table.predict_all.Given as goal

abbrev pub invariant-loop-i : goal.invariant-loop-i
invariant-loop-i l = Walking (λ k. predict (track_at l.initial.floats l.initial.counters k)) l.initial.floats l.initial.counters l.n l.floats l.counters l.i
