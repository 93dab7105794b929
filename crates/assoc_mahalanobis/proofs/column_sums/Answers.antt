-- `column_sums` meets its contract: each row lies in the matrix, and its cells are added to the sums. Assumes nothing.
use Rattle.std.proofs.Common.{rules}
use lib.Ieee.{nan}
use Rattle.cells.proofs.FillLaws.{filled_tab}
use Rattle.assoc_mahalanobis.proofs.Softmax.{sum-start, sum-on}
use Rattle.assoc_mahalanobis.proofs.column_sums.Goals as goal

pub loop-i-init : goal.loop-i-init
loop-i-init c = sum-start c.requires.0 c.requires.1

pub loop-i-preserved : goal.loop-i-preserved
loop-i-preserved c = sum-on c.loop-i.invariant c.loop-i-test.true (filled_tab nan _ c.fill.ensures (λ j h k. search rules))
