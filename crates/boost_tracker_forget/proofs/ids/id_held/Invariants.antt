-- `ids::id_held` meets its contract. The loop's invariant: the ids of the tracks from i on decide. Assumes nothing.
use mathlib.Core.Path.{◌≡◌}
use lib.ListN.{drop}
use Rattle.laws.specs.Elem.{elem}
use Rattle.boost_tracker_table.specs.Table.{tracks, ids_of}
use Rattle.boost_tracker_forget.proofs.ids.id_held.Given as goal

abbrev pub invariant-loop-i : goal.invariant-loop-i
invariant-loop-i l = elem l.id (drop l.i (ids_of (tracks l.floats l.counters l.held))) ≡ elem l.id (ids_of (tracks l.floats l.counters l.held))
