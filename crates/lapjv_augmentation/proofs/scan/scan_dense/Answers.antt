-- `scan_dense` meets its contract. The invariant: what is left of the definition's scans gives the whole, and the columns before hi have rows (`SearchOk`); the measure is what is left of n. Assumes nothing.
use mathlib.Core.Path.{sym, ◌∙◌}
use native.Mathlib.Omega.{arith}
use native.Mathlib.Nat.{le_refl}
use Rattle.lapjv_definition.proofs.EntryLaws.{row_is, owner_free, found_in, found_none}
use Rattle.lapjv_definition.proofs.FoundLaws.{all_scanned_at}
use Rattle.lapjv_definition.proofs.SearchLaws.{all_found, all_again, all_done}
use Rattle.lapjv_augmentation.proofs.scan.scan_dense.Goals as goal

pub reduced_cost-requires : goal.reduced_cost-requires
reduced_cost-requires c =
    let l = c.loop-lo in
    let h = c.loop-lo-test.true in
    let o = l.invariant.any.ok in
    let e = c.row_of-i.ensures ∙ row_is _ _ (o.held l.lo h) in
    (c.requires.2, omega (arith, e, o.held l.lo h), o.below l.lo (omega (arith, o.top)))

pub scan_row-r-requires : goal.scan_row-r-requires
scan_row-r-requires c =
    let l = c.loop-lo in
    let h = c.loop-lo-test.true in
    let o = l.invariant.any.ok in
    let e = c.row_of-i.ensures ∙ row_is _ _ (o.held l.lo h) in
    let q = c.requires in
    (omega (arith, e, o.held l.lo h), o.top, (λ k hk. o.below k (omega (arith, o.len_cols))), l.invariant.len_d, o.len_cols, o.len_pred, q.1, q.2)

pub returns-then-is_some : goal.returns-then-is_some
returns-then-is_some c =
    let l = c.loop-lo in
    let h = c.loop-lo-test.true in
    let o = l.invariant.any.ok in
    let e = c.row_of-i.ensures ∙ row_is _ _ (o.held l.lo h) in
    let s = rw (c.reduced_cost.ensures, e) at c.scan_row-r.ensures in
    all_scanned_at s.column (all_found l.invariant h _ _ _ _ _ s.left (found_in s.column (sym c.is_some.ensures ∙ c.if-is_some.true)))

pub loop-lo-preserved : goal.loop-lo-preserved
loop-lo-preserved c =
    let l = c.loop-lo in
    let h = c.loop-lo-test.true in
    let o = l.invariant.any.ok in
    let e = c.row_of-i.ensures ∙ row_is _ _ (o.held l.lo h) in
    let s = rw (c.reduced_cost.ensures, e) at c.scan_row-r.ensures in
    all_again l.invariant h _ _ _ _ _ s.left (found_none s.column (sym c.is_some.ensures ∙ c.if-is_some.false)) c.scan_row-r.auto.d

pub returns : goal.returns
returns c = let o = c.loop-lo.invariant.any.ok in all_scanned_at (sym (owner_free _ _ (le_refl _))) (all_done c.loop-lo.invariant (omega (arith, o.order, c.loop-lo-test.false)))
