-- `last_free` meets its contract. The invariant: what is left of the definition's passes gives the whole, over some f that `found` is the option of. Assumes nothing.
use mathlib.Core.Path.{refl, sym, ◌∙◌}
use native.Mathlib.Omega.{arith}
use native.Mathlib.Nat.{le_refl}
use Rattle.lapjv_definition.proofs.EntryLaws.{owner_row, owner_free}
use Rattle.lapjv_definition.proofs.PathLaws.{last_again, last_done}
use Rattle.lapjv_augmentation.proofs.path.last_free.Goals as goal
use Rattle.lapjv_augmentation.proofs.path.last_free.Goals.{then-is_free, else-is_free}

pub loop-k-init : goal.loop-k-init
loop-k-init c = (c.args.n, sym (owner_free _ _ (le_refl _)), record { to = omega arith; rest = refl })

pub loop-k-preserved : goal.loop-k-preserved
loop-k-preserved c =
    let i = c.loop-k.invariant in
    elim c.if-is_free.branch [
      | then-is_free w ↦ (_, w.found-is ∙ sym (owner_row _ _ (c.requires.2 c.loop-k.k (omega arith))), last_again i.2 c.loop-k-test.true (rw (sym c.is_free.ensures ∙ w.if-is_free.true)))
      | else-is_free w ↦ (i.0, w.found-is ∙ i.1, last_again i.2 c.loop-k-test.true (rw (sym c.is_free.ensures ∙ w.if-is_free.false)))
    ]

pub returns : goal.returns
returns c = let i = c.loop-k.invariant in rw (last_done i.2 c.loop-k-test.false) at i.1
