-- `ids::all_held` meets its contract. The loop's invariant: the ids from there on decide. Assumes nothing.
use mathlib.Core.Path.{◌≡◌}
use mathlib.Core.Bool.{Bool}
use mathlib.Core.List.{List}
use Prim.Native.Nat.{ℕ}
use lib.ListN.{drop}
use lib.Ieee.{Float}
use Rattle.laws.specs.Elem.{elem}
use Rattle.laws.specs.Every.{every}
use Rattle.boost_tracker_table.specs.Table.{tracks, ids_of}
use Rattle.boost_tracker_forget.proofs.ids.all_held.Given as goal

abbrev pub is_held : List Float → List ℕ → ℕ → ℕ → Bool
is_held floats counters held id = elem id (ids_of (tracks floats counters held))

abbrev pub invariant-loop-id : goal.invariant-loop-id
invariant-loop-id l = every (is_held l.floats l.counters l.held) (drop l.id-index l.ids) ≡ every (is_held l.floats l.counters l.held) l.ids
