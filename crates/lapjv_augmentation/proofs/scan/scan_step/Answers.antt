-- `scan_step` meets its contract. Each of its ends is one of the definition's. Assumes nothing.
use mathlib.Core.Path.{sym, ◌∙◌}
use native.Mathlib.Nat.{le_refl}
use Rattle.lapjv_definition.proofs.EntryLaws.{owner_row, owner_free}
use Rattle.lapjv_definition.proofs.FoundLaws.{scanned_at}
use Rattle.lapjv_augmentation.proofs.scan.scan_step.Goals as goal

pub returns-then-is_free : goal.returns-then-is_free
returns-then-is_free c =
    scanned_at (sym (owner_row _ _ c.requires.3)) (rw (← c.reduced_cost.ensures, c.if-cred_ij-d.true, c.if-cred_ij-mind.true, (sym c.is_free.ensures ∙ c.if-is_free.true)))

pub returns-then-cred_ij-mind : goal.returns-then-cred_ij-mind
returns-then-cred_ij-mind c =
    scanned_at (sym (owner_free _ _ (le_refl _)))
    (rw (← c.reduced_cost.ensures, c.if-cred_ij-d.true, c.if-cred_ij-mind.true, (sym c.is_free.ensures ∙ c.if-is_free.false), c.swap.ensures))

pub returns-else-cred_ij-mind : goal.returns-else-cred_ij-mind
returns-else-cred_ij-mind c =
    scanned_at (sym (owner_free _ _ (le_refl _))) (rw (← c.reduced_cost.ensures, c.if-cred_ij-d.true, c.if-cred_ij-mind.false))

pub returns-else-cred_ij-d : goal.returns-else-cred_ij-d
returns-else-cred_ij-d c =
    scanned_at (sym (owner_free _ _ (le_refl _))) (rw (← c.reduced_cost.ensures, c.if-cred_ij-d.false))
