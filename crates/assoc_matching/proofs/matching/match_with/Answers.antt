-- `matching::match_with` meets its contract. Where the direct path is not taken the slices are as they were, and there is a square to solve. Assumes nothing.
use Rattle.std.proofs.Common.{◌∙◌}
use Rattle.laws.specs.Tab.{replicate_tab}
use Rattle.assoc_matching.specs.Answers.{match_lent_with}
use Rattle.assoc_direct.proofs.OpenLaws.{not_open}
use Rattle.assoc_matching.proofs.MatchLaws.{some-side}
use Rattle.assoc_matching.proofs.PartnerLaws.{as_called, taken-done, ready_as, not_taken-done}
use Rattle.assoc_matching.proofs.matching.match_with.Goals as goal

pub returns-in-Some : goal.returns-in-Some
returns-in-Some c =
    let a = c.args in
    let sides = c.requires.ready.sides in
    taken-done a.cost.cells.now a.cost.nrows a.cost.ncols a.threshold sides.few-rows sides.few-cols (match_lent_with a.boxes.now a.tracks.now a.work.now)
    (as_called _ _ _ _ a.boxes.now a.tracks.now c.requires.ready c.direct_pairs-found.ensures) c.in-Some.is (c.fill.ensures.after (λ y e. e) ∙ replicate_tab _ _)

pub match_by_lapjv-requires : goal.match_by_lapjv-requires
match_by_lapjv-requires c =
    let a = c.args in
    let ready = c.requires.ready in
    let w = not_open _ _ _ _ (as_called _ _ _ _ a.boxes.now a.tracks.now ready c.direct_pairs-found.ensures) c.in_default.is in
    record { ready = ready_as _ _ _ _ ready.sides.few-rows ready.sides.few-cols w ready; some = some-side _ _ _ _ w.path }

pub returns : goal.returns
returns c =
    let a = c.args in
    let sides = c.requires.ready.sides in
    not_taken-done a.cost.cells.now a.cost.nrows a.cost.ncols a.threshold sides.few-rows sides.few-cols (match_lent_with a.boxes.now a.tracks.now a.work.now)
    (not_open _ _ _ _ (as_called _ _ _ _ a.boxes.now a.tracks.now c.requires.ready c.direct_pairs-found.ensures) c.in_default.is) c.match_by_lapjv.ensures
