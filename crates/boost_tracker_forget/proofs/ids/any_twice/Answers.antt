-- `ids::any_twice` meets its contract. The loop's invariant: of the ids before place i none stands twice. Assumes nothing.
use mathlib.Core.Path.{sym, ◌∙◌}
use Rattle.boost_tracker_forget.proofs.IdLaws.{none_yet, once_more, twice_found}
use Rattle.boost_tracker_forget.proofs.ids.any_twice.Goals as goal

pub returns-then-listed : goal.returns-then-listed
returns-then-listed c =
    let at = c.loop-i in
    let ids = c.args.ids.now in
    twice_found ids at.i c.loop-i-test.true (sym c.listed.ensures ∙ c.if-listed.true)

pub loop-i-preserved : goal.loop-i-preserved
loop-i-preserved c =
    let at = c.loop-i in
    let ids = c.args.ids.now in
    once_more ids at.i c.loop-i-test.true at.invariant (sym c.listed.ensures ∙ c.if-listed.false)

pub loop-i-init : goal.loop-i-init
loop-i-init c = none_yet
