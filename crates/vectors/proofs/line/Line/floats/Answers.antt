-- `vectors::line::Line::floats` meets its contract: std's `fold` adds one after the other. Assumes nothing.
use mathlib.Core.Path.{◌∙◌}
use Rattle.std.proofs.Common.{rules}
use Rattle.std.proofs.lemmas.Iterator.{YieldsList-from_slice}
use Rattle.std.proofs.lemmas.Iterator.Consumers.{fold_from_yields_List}
use Rattle.vectors.specs.Line.{float}
use Rattle.vectors.proofs.Printing.{listed}
use Rattle.vectors.proofs.line.Line.floats.Goals as goal

pub returns : goal.returns
returns c =
    let s = c.args.s.now in
    fold_from_yields_List _ float c.args.self c.fold.result c.fold.ensures.ran (YieldsList-from_slice s cc) (λ l x b q k. search rules)
    ∙ listed s c.args.self
