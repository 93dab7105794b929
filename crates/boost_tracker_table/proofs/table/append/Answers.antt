-- `table::append` meets its contract. Assumes nothing.
use native.Mathlib.Omega.{arith}
use Rattle.boost_tracker_table.proofs.Walks.{appended, not_appended}
use Rattle.boost_tracker_table.proofs.table.append.Goals as goal

pub returns-then-held-capacity : goal.returns-then-held-capacity
returns-then-held-capacity c =
    let a = c.args in
    appended a.floats.now a.counters.now a.held a.t (omega (arith, c.if-held-capacity.true, c.capacity.ensures)) c.put_track.ensures.floats c.put_track.ensures.counters

pub returns-else-held-capacity : goal.returns-else-held-capacity
returns-else-held-capacity c = let a = c.args in not_appended a.floats.now a.counters.now a.held a.t (omega (arith, c.if-held-capacity.false, c.capacity.ensures))
