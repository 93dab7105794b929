-- `carr_take` meets its contract. Each of its three ends is one of the definition's. Assumes nothing.
use mathlib.Core.Path.{sym, ◌∙◌}
use borrow.Author.Tests.{lt-ltb, le-ltb}
use Rattle.lapjv_definition.specs.Private.{carr_take}
use Rattle.lapjv_definition.proofs.EntryLaws.{owned, not_owned}
use Rattle.lapjv_reduction.proofs.carr.carr_take.Goals as goal

pub returns-in_default : goal.returns-in_default
unfolding carr_take
returns-in_default c = λ v. rw (le-ltb _ _ (not_owned _ _ (sym c.owner_of-owner.ensures ∙ c.in_default.is)))

pub returns-then-retry : goal.returns-then-retry
unfolding carr_take
returns-then-retry c = let q = owned _ _ (sym c.owner_of-owner.ensures ∙ c.in-Some.is) in λ v. rw (lt-ltb _ _ q.0, c.if-retry.true, q.1)

pub returns : goal.returns
unfolding carr_take
returns c = let q = owned _ _ (sym c.owner_of-owner.ensures ∙ c.in-Some.is) in λ v. rw (lt-ltb _ _ q.0, c.if-retry.false, q.1)
