-- `table_labels::keep_labels` meets its contract. The loop's invariant: of the labels before i those of tracks that stay lie in the front, w of them, and the rest is as it was. Assumes nothing.
use Rattle.std.proofs.Common.{Bool, ◌≤◌}
use Rattle.boost_tracker_table.specs.Table.{Track}
use Rattle.boost_tracker_table.specs.Private.{TellsOf}
use Rattle.boost_tracker_table.proofs.LabelLaws.{Relabelled}
use Rattle.boost_tracker_table.proofs.table_labels.keep_labels.Given as goal

abbrev pub invariant-loop-i : goal.invariant-loop-i
invariant-loop-i g l = record { few : l.w ≤ l.i; relabelled : (p : Track → Bool) → TellsOf (goal.F-post g l.stays) p → Relabelled p l.floats l.counters l.held l.initial.labels l.n l.i l.w l.labels }
