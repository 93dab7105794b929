-- `set_each` meets its contract.
use Rattle.std.proofs.Common.{rules}
use Rattle.std.specs.Float.{nan}
use Rattle.cells.proofs.FillLaws.{filled_tab}
use Rattle.labels.proofs.set_each.Goals as goal

pub returns : goal.returns
returns c = filled_tab nan _ c.fill.ensures (λ j h k. search rules)
