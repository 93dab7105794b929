-- `table::correct` meets its contract: a load, and the store of an accepted correction; a refused one leaves the table. Assumes nothing.
use Rattle.std.proofs.Common.{sym, ap, ◌∙◌}
use Rattle.strack.specs.Strack.{track_answer}
use Rattle.boost_tracker_table.proofs.Walks.{correction_refused}
use Rattle.boost_tracker_table.proofs.table.correct.Goals as goal

pub returns-in_default : goal.returns-in_default
returns-in_default c =
    let a = c.args in
    let refused = sym (ap track_answer c.in_default.is) ∙ c.correct.ensures in
    correction_refused a.floats.now a.counters.now a.held a.i a.bbox c.load.ensures refused
