-- `workable::all_workable` meets its contract. The loop's invariant: the tracks before i are workable, and those from i on decide. Assumes nothing.
use mathlib.Core.Bool.{Bool}
use Prim.Native.Nat.{ℕ}
use Rattle.laws.specs.Tab.{tab}
use Rattle.laws.specs.Every.{Chaining}
use Rattle.boost_tracker_table.specs.Table.{Track, track_at}
use Rattle.boost_tracker_verdict.specs.Verdict.{workable}
use Rattle.boost_tracker_verdict.proofs.workable.all_workable.Given as goal

-- the test looks at nothing before
abbrev pub ok : ℕ → Track → Bool
ok _ t = workable t

abbrev pub kept : ℕ → Track → ℕ
kept s _ = s

abbrev pub invariant-loop-i : goal.invariant-loop-i
invariant-loop-i l = Chaining ok kept 0 (tab (track_at l.floats l.counters) l.n) l.i 0
