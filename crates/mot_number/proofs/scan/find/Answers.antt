-- `scan::find` meets its contract: std's `position` is the definition's place, and stands before the end. Assumes nothing.
use mathlib.Core.Path.{◌≡◌, ◌∙◌}
use native.Mathlib.Omega.{arith}
use lib.Dec.{eqb}
use Rattle.std.proofs.Common.{rules, tests}
use Rattle.std.proofs.lemmas.Iterator.{YieldsList-from_slice}
use Rattle.std.proofs.lemmas.Iterator.Search.{position_from_yields_List}
use Rattle.mot_number.specs.Index.{index_of}
use Rattle.mot_number.proofs.Index.{index_le, position-index}
use Rattle.mot_number.proofs.scan.find.Goals as goal

pub returns : goal.returns
returns c =
    let t = c.args.text.now in
    let found : c.unwrap_or.result ≡ index_of c.args.byte t =
    c.unwrap_or.ensures
    ∙ position-index c.args.byte t c.position.result (position_from_yields_List (λ b. eqb b c.args.byte) _ _ c.position.result c.position.ensures.ran (YieldsList-from_slice t cc) (λ x b q k. search (rules, tests))) in
    record { place = found; inside = omega (arith, found, index_le c.args.byte t) }
