-- `augment` meets its contract. The invariant: what is left of the definition's path gives the whole, and it ends within the passes left (`Holed`), so that the loop never runs to its end; the measure is the passes left. Assumes nothing.
use Rattle.lapjv_definition.proofs.AugmentLaws.{aug_found, aug_again, aug_start}
use Rattle.lapjv_augmentation.proofs.ca.augment.Goals as goal

pub loop-k-init : goal.loop-k-init
loop-k-init c = let q = c.requires in aug_start q.1 q.2 q.3

pub returns-then-i-free_row : goal.returns-then-i-free_row
returns-then-i-free_row c = aug_found c.loop-k.invariant c.loop-k-test.true c.if-i-free_row.true

pub loop-k-preserved : goal.loop-k-preserved
loop-k-preserved c =
    rw c.row_of-next.ensures (aug_again c.loop-k.invariant c.loop-k-test.true c.if-i-free_row.false)
