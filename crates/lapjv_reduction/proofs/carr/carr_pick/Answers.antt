-- `carr_pick` meets its contract. Each of its ends is one of the definition's. Assumes nothing.
use mathlib.Core.Path.{sym, ◌∙◌}
use borrow.Author.Tests.{lt-ltb, le-ltb}
use Rattle.lapjv_definition.specs.Private.{carr_pick}
use Rattle.lapjv_definition.proofs.EntryLaws.{free_true, free_false}
use Rattle.lapjv_reduction.proofs.carr.carr_pick.Goals as goal
use Rattle.lapjv_reduction.proofs.carr.carr_pick.Goals.{else-not-is_free-via-then-not-is_free+else-j2-n, else-not-is_free-via-else-not-is_free}

pub returns-then-v1_new-vj1 : goal.returns-then-v1_new-vj1
unfolding carr_pick
returns-then-v1_new-vj1 c = rw (c.if-early.true, c.if-v1_new-vj1.true)

pub returns-then-j2-n : goal.returns-then-j2-n
unfolding carr_pick
returns-then-j2-n c =
    rw (c.if-early.true, c.if-v1_new-vj1.false, lt-ltb _ _ (free_false _ _ (sym c.is_free.ensures ∙ c.if-not-is_free.true)), lt-ltb _ _ c.if-j2-n.true)

pub returns-else-not-is_free : goal.returns-else-not-is_free
unfolding carr_pick
returns-else-not-is_free c =
    rw (c.if-early.true, c.if-v1_new-vj1.false) (elim c.else-not-is_free.branch [
      | else-not-is_free-via-then-not-is_free+else-j2-n w ↦ rw (lt-ltb _ _ (free_false _ _ (sym c.is_free.ensures ∙ w.if-not-is_free.true)), le-ltb _ _ w.if-j2-n.false)
      | else-not-is_free-via-else-not-is_free w ↦ rw (le-ltb _ _ (free_true _ _ (sym c.is_free.ensures ∙ w.if-not-is_free.false)))
    ])

pub returns-else-early : goal.returns-else-early
unfolding carr_pick
returns-else-early c = rw c.if-early.false
