-- `field::first_other` meets its contract: std's `position` is the first byte that is no digit. Assumes nothing.
use mathlib.Core.Path.{◌∙◌}
use mathlib.Core.Bool.{not}
use Prim.Native.Nat.{ℕ}
use Rattle.std.proofs.Common.{rules, tests}
use Rattle.std.proofs.lemmas.Iterator.{YieldsList-from_slice}
use Rattle.std.proofs.lemmas.Iterator.Search.{position_from_yields_List}
use Rattle.mot_number.specs.Number.{is_digit}
use Rattle.mot_fault.proofs.Positions.{position-lowest}
use Rattle.mot_fault.proofs.field.first_other.Goals as goal

pub returns : goal.returns
returns c =
    let t = c.args.text.now in
    c.unwrap_or.ensures
    ∙ position-lowest (λ (b : ℕ). not (is_digit b)) t c.position.result
    (position_from_yields_List (λ b. not (is_digit b)) _ _ c.position.result c.position.ensures.ran (YieldsList-from_slice t cc) (λ x b q k. search (rules, tests)))
