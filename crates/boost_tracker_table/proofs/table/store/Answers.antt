-- `table::store` meets its contract. Assumes nothing.
use native.Mathlib.Omega.{arith}
use Rattle.boost_tracker_table.proofs.Walks.{stored, not_stored}
use Rattle.boost_tracker_table.proofs.table.store.Goals as goal

pub returns-then-i-placed : goal.returns-then-i-placed
returns-then-i-placed c =
    let a = c.args in
    stored a.floats.now a.counters.now a.held a.i a.t (omega (arith, c.if-i-placed.true, c.placed.ensures)) c.put_track.ensures.floats c.put_track.ensures.counters

pub returns-else-i-placed : goal.returns-else-i-placed
returns-else-i-placed c = let a = c.args in not_stored a.floats.now a.counters.now a.held a.i a.t (omega (arith, c.if-i-placed.false, c.placed.ensures))
