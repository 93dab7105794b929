-- `scan_row` meets its contract. The invariant: what is left of the definition's passes gives the whole, and hi is at most k. Assumes nothing.
use mathlib.Core.Path.{sym, ◌∙◌}
use native.Mathlib.Nat.{le_refl}
use Rattle.lapjv_definition.proofs.EntryLaws.{owner_free, found_in, found_none}
use Rattle.lapjv_definition.proofs.FoundLaws.{scanned_at}
use Rattle.lapjv_definition.proofs.ScanLaws.{scan_again, scan-found, scan-done}
use Rattle.lapjv_augmentation.proofs.scan.scan_row.Goals as goal

pub returns-then-is_some : goal.returns-then-is_some
returns-then-is_some c =
    let s = c.scan_step-r.ensures in
    scanned_at s.column (scan-found c.loop-k.invariant _ _ _ _ _ c.loop-k-test.true s.left (found_in s.column (sym c.is_some.ensures ∙ c.if-is_some.true)))

pub loop-k-preserved : goal.loop-k-preserved
loop-k-preserved c =
    let s = c.scan_step-r in
    let e = s.ensures.column in
    scan_again c.loop-k.invariant _ _ _ _ _ c.loop-k-test.true s.ensures.left (found_none e (sym c.is_some.ensures ∙ c.if-is_some.false)) s.auto.d s.auto.cols s.auto.pred

pub returns : goal.returns
returns c = scanned_at (sym (owner_free _ _ (le_refl _))) (scan-done c.loop-k.invariant c.loop-k-test.false)
