-- `table::load` meets its contract. Assumes nothing.
use Rattle.std.proofs.Common.{◌≡◌, sym, ◌∙◌, rules}
use native.Mathlib.Omega.{arith}
use Rattle.boost_tracker_table.specs.Table.{blank}
use Rattle.boost_tracker_table.proofs.Laws.{tracks-at, tracks_past}
use Rattle.boost_tracker_table.proofs.table.load.Goals as goal

pub returns-then-i-placed : goal.returns-then-i-placed
returns-then-i-placed c =
    let a = c.args in
    c.track_at.ensures ∙ sym (tracks-at a.floats.now a.counters.now a.held a.i blank (omega (arith, c.if-i-placed.true, c.placed.ensures)))

pub returns-else-i-placed : goal.returns-else-i-placed
returns-else-i-placed c =
    let a = c.args in
    let zeros : c.default.result ≡ blank = search rules in
    zeros ∙ sym (tracks_past a.floats.now a.counters.now a.held a.i blank (omega (arith, c.if-i-placed.false, c.placed.ensures)))
