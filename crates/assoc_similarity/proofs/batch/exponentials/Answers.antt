-- `batch::exponentials` meets its contract. Assumes nothing.
use Rattle.std.proofs.Common.{rules}
use lib.Ieee.{nan}
use Rattle.cells.proofs.RowLaws.{filled_grid}
use Rattle.assoc_similarity.proofs.batch.exponentials.Goals as goal

pub returns : goal.returns
returns c = filled_grid nan _ c.fill_rows.ensures c.requires (λ i j hi hj k. search rules)
