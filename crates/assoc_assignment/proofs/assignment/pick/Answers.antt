-- `assignment::pick` meets its contract. Assumes nothing.
use mathlib.Core.Path.{sym, ◌∙◌}
use borrow.Author.Tests.{lt-ltb, le-ltb}
use Rattle.assoc_assignment.specs.Assignment.{valid_match}
use Rattle.assoc_assignment.specs.Private.{picked}
use Rattle.assoc_assignment.proofs.assignment.pick.Goals as goal

pub returns-then-stands : goal.returns-then-stands
unfolding picked valid_match
returns-then-stands c = rw (lt-ltb _ _ c.if-j-iou.true, ← c.at.ensures, sym c.stands.ensures ∙ c.if-stands.true)

pub returns-else-stands : goal.returns-else-stands
unfolding picked valid_match
returns-else-stands c = rw (lt-ltb _ _ c.if-j-iou.true, ← c.at.ensures, sym c.stands.ensures ∙ c.if-stands.false)

pub returns-else-j-iou : goal.returns-else-j-iou
unfolding picked
returns-else-j-iou c = rw (le-ltb _ _ c.if-j-iou.false)
