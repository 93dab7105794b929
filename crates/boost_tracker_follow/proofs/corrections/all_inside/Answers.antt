-- `corrections::all_inside` meets its contract: no index is outside. Assumes nothing.
use Rattle.std.proofs.Common.{rules, tests, ◌∙◌, ltb}
use Rattle.std.proofs.lemmas.Iterator.{YieldsList-from_slice}
use Rattle.std.proofs.lemmas.Iterator.Search.{all_from_yields_List}
use Rattle.boost_tracker_follow.proofs.FitLaws.{all-inside}
use Rattle.boost_tracker_follow.proofs.corrections.all_inside.Goals as goal

pub returns : goal.returns
returns c =
    let a = c.args in
    all_from_yields_List (λ i. ltb i a.n) _ _ _ c.all.ensures.ran (YieldsList-from_slice a.indices.now cc) (λ x b q k. search (rules, tests)) ∙ all-inside a.indices.now a.n
