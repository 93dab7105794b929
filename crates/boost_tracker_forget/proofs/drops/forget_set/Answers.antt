-- `drops::forget_set` meets its contract: a refused drop and an empty one change nothing, and every other is the drop of the set. Assumes nothing.
use mathlib.Core.Path.{sym, ◌∙◌}
use Rattle.boost_tracker_table.specs.Lent.{table_with}
use Rattle.boost_tracker_forget.proofs.ForgetLaws.{forgets_not, forgets-none, forgets-some, accepted-placed}
use Rattle.boost_tracker_forget.proofs.drops.forget_set.Goals as goal
use Rattle.boost_tracker_forget.proofs.drops.forget_set.Goals.{then-is_err-via-then-is_err, then-is_err-via-else-is_err+then-is_empty}

pub returns-then-is_err : goal.returns-then-is_err
returns-then-is_err c =
    let a = c.args in
    let e = c.forget_verdict-verdict.ensures in
    let is = sym c.is_err.ensures.value in
    elim c.then-is_err.branch [
      | then-is_err-via-then-is_err w ↦ forgets_not a.state _ a.ids.now e (is ∙ w.if-is_err.true)
      | then-is_err-via-else-is_err+then-is_empty w ↦ forgets-none a.state _ a.ids.now e (is ∙ w.if-is_err.false) (sym w.is_empty.ensures ∙ w.if-is_empty.true)
    ]

pub drop_set-state-requires : goal.drop_set-state-requires
drop_set-state-requires c =
    let a = c.args in
    accepted-placed a.state (table_with a.floats.now a.counters.now a.labels.now) a.ids.now c.forget_verdict-verdict.ensures (sym c.is_err.ensures.value ∙ c.if-is_err.false)

pub returns : goal.returns
returns c =
    let a = c.args in
    let accepted = sym c.is_err.ensures.value ∙ c.if-is_err.false in
    let some = sym c.is_empty.ensures ∙ c.if-is_empty.false in
    forgets-some a.state _ a.ids.now c.forget_verdict-verdict.ensures accepted some c.drop_set-state.ensures
