-- `asking::ask` meets its contract: the first boxes, and as many labels. Assumes nothing.
use mathlib.Core.Path.{sym}
use native.Mathlib.Omega.{arith}
use lib.Seq.{length-take-le}
use Rattle.boost_tracker_table.specs.Lent.{table_with}
use Rattle.boost_tracker_why.specs.Answers.{work_with}
use Rattle.why_io.proofs.AskLaws.{asks_front}
use Rattle.why_io.proofs.asking.ask.Goals as goal

pub slice_bounds-why-end : goal.slice_bounds-why-end
slice_bounds-why-end c = sym (length-take-le _ _ (omega (arith, c.min-end.ensures)))

pub slice_bounds-why-end-2 : goal.slice_bounds-why-end-2
slice_bounds-why-end-2 c = sym (length-take-le _ _ (omega (arith, c.min-labelled.ensures)))

pub returns : goal.returns
returns c =
    let a = c.args in
    asks_front a.k a.feed.table a.boxes.now a.box_labels.now (table_with a.floats.now a.counters.now a.labels.now) a.room a.index
    (work_with a.work64.now a.work32.now) c.settings.ensures c.min-end.ensures c.min-labelled.ensures c.why.ensures
