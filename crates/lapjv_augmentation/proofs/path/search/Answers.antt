-- `search` meets its contract. The invariant: what is left of the definition's passes gives the whole. The measure falls as lo grows, and at the end since something is found. Assumes nothing.
use mathlib.Core.Path.{refl, sym}
use native.Mathlib.Omega.{arith}
use native.Mathlib.Nat.{le_refl}
use Rattle.lapjv_definition.proofs.EntryLaws.{owner_free, found_in, found_none}
use Rattle.lapjv_definition.proofs.FoundLaws.{searched_at}
use Rattle.lapjv_definition.proofs.SearchEnds.{search-less, search_again, search-done}
use Rattle.lapjv_augmentation.proofs.path.search.Goals as goal

pub loop-costs-init : goal.loop-costs-init
loop-costs-init c =
    let q = c.requires in
    (c.args.costs.side, sym (owner_free _ _ (le_refl _)), record { start = q.3.start; fuel = c.args.costs.side; len_d = q.0; len_cols = q.3.ok.len_cols; len_pred = q.3.ok.len_pred; none = λ h. record { ok = q.3.ok; same = refl; count = refl }; enough = λ h. omega arith; rest = refl })

pub search_step-s-requires : goal.search_step-s-requires
search_step-s-requires c =
    let q = c.requires in
    let i = c.loop-costs.invariant.2 in
    let l = i.none (found_none c.loop-costs.invariant.1 (rw c.loop-costs-test.true at c.is_none.ensures)) in
    (i.len_d, q.1, q.2, l.same, l.count, record { start = i.start; ok = l.ok }, q.4)

pub loop-costs-smaller : goal.loop-costs-smaller
loop-costs-smaller c =
    let i = c.loop-costs.invariant in
    let s = c.search_step-s.ensures i.0 in
    search-less i.2 c.requires.1 c.requires.4 (found_none i.1 (rw c.loop-costs-test.true at c.is_none.ensures)) s.left i.1 s.column

pub loop-costs-preserved : goal.loop-costs-preserved
loop-costs-preserved c =
    let i = c.loop-costs.invariant in
    let s = c.search_step-s.ensures i.0 in
    (_, s.column, search_again i.2 c.requires.1 c.requires.4 (found_none i.1 (rw c.loop-costs-test.true at c.is_none.ensures)) s.left c.search_step-s.auto.d c.search_step-s.auto.cols c.search_step-s.auto.pred)

pub returns : goal.returns
returns c =
    let i = c.loop-costs.invariant in
    searched_at i.1 (search-done i.2 (found_in i.1 (rw c.loop-costs-test.false at c.is_none.ensures)))
