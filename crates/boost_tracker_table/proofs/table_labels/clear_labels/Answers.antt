-- `table_labels::clear_labels` meets its contract. Assumes nothing.
use Rattle.std.proofs.Common.{rules, arith}
use Rattle.boost_tracker_table.proofs.LabelLaws.{zero-stored}
use Rattle.boost_tracker_table.proofs.table_labels.clear_labels.Goals as goal

pub returns : goal.returns
returns c =
    let end = c.min-end.ensures in
    let first = c.min.ensures in
    rw (← end, ← first) (zero-stored c.args.labels.now (omega (arith, first)) (omega (arith, end)) (c.fill.ensures.after (search rules)))
