-- `table::keep_tracks` meets its contract. The loop's invariant: of the tracks before i those that stay lie in the front, w of them, and the rest is as it was. Assumes nothing.
use Rattle.std.proofs.Common.{Bool, ◌≤◌}
use Rattle.boost_tracker_table.specs.Table.{Track}
use Rattle.boost_tracker_table.specs.Private.{TellsOf}
use Rattle.boost_tracker_table.proofs.Walks.{Sieving}
use Rattle.boost_tracker_table.proofs.table.keep_tracks.Given as goal

abbrev pub invariant-loop-i : goal.invariant-loop-i
invariant-loop-i g l = record { few : l.w ≤ l.i; sieving : (p : Track → Bool) → TellsOf (goal.F-post g l.stays) p → Sieving p l.initial.floats l.initial.counters l.n l.floats l.counters l.w l.i }
