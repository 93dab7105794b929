-- `seen::retained_before` meets its contract. Assumes nothing.
use Rattle.std.proofs.Common.{rules, tests, ◌∙◌}
use Rattle.std.proofs.lemmas.Iterator.{YieldsList-from_slice, YieldsList-from_take}
use Rattle.std.proofs.lemmas.Iterator.Consumers.{YieldsList-from_filter, count_from_yields_List}
use lib.Ieee.{le}
use Rattle.boost_tracker_seen.proofs.CountLaws.{retained-counted}
use Rattle.boost_tracker_seen.proofs.seen.retained_before.Goals as goal

pub returns : goal.returns
returns c =
    let a = c.args in
    count_from_yields_List c.filter.result _ c.count.ensures.ran
    (YieldsList-from_filter _ (le a.thresh) (YieldsList-from_take a.i (YieldsList-from_slice a.scores.now cc) (cc)) c.filter.ensures.closure (λ x b q k. search (rules, tests)))
    ∙ retained-counted a.thresh a.scores.now a.i
