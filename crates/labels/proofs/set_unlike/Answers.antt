-- `set_unlike` meets its contract: by the labels of the row alone, where there is one for each cell, and where all are the box's the row stays.
use Rattle.std.proofs.Common.{sym, ◌∙◌, length, take, length-take-le}
use Rattle.labels.proofs.RowLaws.{front-set, row_stays}
use Rattle.labels.proofs.set_unlike.Goals as goal

pub returns-then-not-all_alike : goal.returns-then-not-all_alike
returns-then-not-all_alike c = c.set_each-then-not-all_alike.ensures ∙ front-set c.args.label c.args.labels.now c.args.value c.args.row.now

pub returns-else-not-all_alike : goal.returns-else-not-all_alike
returns-else-not-all_alike c =
    let a = c.args in
    row_stays a.label (take (length a.row.now) a.labels.now) a.value a.row.now (length-take-le _ _ c.if-labels-n.false) (sym c.all_alike.ensures ∙ c.if-not-all_alike.false)
    ∙ front-set a.label a.labels.now a.value a.row.now
