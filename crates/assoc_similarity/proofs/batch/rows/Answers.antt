-- `batch::rows` meets its contract: each row lies in the slice and comes back filled. Assumes nothing.
use Rattle.std.proofs.Common.{rules}
use Rattle.cells.proofs.RowLaws.{row_made}
use Rattle.assoc_similarity.proofs.batch.rows.Goals as goal

pub loop-i-preserved : goal.loop-i-preserved
loop-i-preserved g c = row_made c.loop-i.invariant c.loop-i-test.true c.requires.room c.fill.ensures (λ j v r e. search rules)
