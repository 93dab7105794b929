-- `sound::all_orderly` meets its contract. The loop's invariant: the tracks before i are orderly, `low` is the id of the last of them, and those from i on decide.
-- Assumes nothing.
use Rattle.laws.specs.Tab.{tab}
use Rattle.laws.specs.Every.{Chaining}
use Rattle.boost_tracker_table.specs.Table.{track_at}
use Rattle.boost_tracker_verdict.specs.Private.{orderly, id_of}
use Rattle.boost_tracker_verdict.proofs.sound.all_orderly.Given as goal

abbrev pub invariant-loop-i : goal.invariant-loop-i
invariant-loop-i l = Chaining (orderly l.state.last l.state.frames) id_of 0 (tab (track_at l.floats l.counters) l.n) l.i l.low
