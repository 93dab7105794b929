-- The invariant of `dlo::rich_row`. The loop's invariant: the first j cells are stored, and the others as they were. Assumes nothing.
use Rattle.std.proofs.Common.{length, get_or}
use lib.Ieee.{nan}
use Rattle.boost_tracker_dlo.specs.Private.{third}
use Rattle.laws.specs.Tab.{Filling}
use Rattle.boost_tracker_dlo.proofs.dlo.rich_row.Given as goal

abbrev pub invariant-loop-j : goal.invariant-loop-j
invariant-loop-j l = Filling (λ k. third (get_or l.mhd k nan) (get_or l.initial.row k nan) (get_or l.sbiou k nan)) l.initial.row (length l.initial.row) l.j l.row
