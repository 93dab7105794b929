-- `reduce_step` meets its contract. Each of its three ends is one of the definition's. Assumes nothing.
use mathlib.Core.Path.{sym, ◌∙◌}
use native.Mathlib.Omega.{arith}
use Rattle.lapjv_definition.proofs.EntryLaws.{owned}
use Rattle.lapjv_definition.specs.Entry.{is_free, row_of}
use Rattle.lapjv_reduction.proofs.ccrt.reduce_step.Goals as goal

pub returns-in_default : goal.returns-in_default
unfolding is_free
returns-in_default c = rw (sym c.owner_of.ensures ∙ c.in_default.is)

pub offset_bounds-v-j : goal.offset_bounds-v-j
offset_bounds-v-j c = let q = owned _ _ (sym c.owner_of.ensures ∙ c.in-Some.is) in omega (arith, q, c.requires, c.args.costs.square.small)

pub bounds-v-j : goal.bounds-v-j
bounds-v-j c = let q = owned _ _ (sym c.owner_of.ensures ∙ c.in-Some.is) in omega (arith, q, c.requires)

pub bounds-v-j-then-u : goal.bounds-v-j-then-u
bounds-v-j-then-u c = let q = owned _ _ (sym c.owner_of.ensures ∙ c.in-Some.is) in omega (arith, q, c.requires)

pub returns-then-u : goal.returns-then-u
unfolding is_free row_of
returns-then-u c = rw (sym c.owner_of.ensures ∙ c.in-Some.is, c.if-u.true, c.ccrt_min.ensures)

pub returns-else-u : goal.returns-else-u
unfolding is_free row_of
returns-else-u c = rw (sym c.owner_of.ensures ∙ c.in-Some.is, c.if-u.false)
