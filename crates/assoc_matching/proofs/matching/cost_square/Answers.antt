-- `matching::cost_square` meets its contract: each cell of the square is made by the closure. Assumes nothing.
use Rattle.std.proofs.Common.{rules, le_of_eq, sym, ◌∙◌}
use lib.Ieee.{nan}
use Rattle.cells.proofs.RowLaws.{filled_grid}
use Rattle.assoc_matching.proofs.SquareLaws.{square-is}
use Rattle.assoc_matching.proofs.matching.cost_square.Goals as goal

pub returns : goal.returns
returns c = filled_grid nan _ c.fill_rows.ensures (le_of_eq (sym c.requires.long)) (λ i j hi hj k. search rules) ∙ square-is _ _ _ _ _ c.requires.long
