-- `matching::match_by_lapjv_with` meets its contract. The pairs are no more than the smaller side, so that there is room for them. Assumes nothing.
use Rattle.std.proofs.Common.{ap, ◌∙◌}
use lib.Ieee.{binary64, of_bits}
use Rattle.laws.specs.Tab.{tab, replicate_tab}
use Rattle.assoc_matching.specs.Answers.{match_lent_with}
use Rattle.assoc_matching.proofs.PartnerLaws.{solved_room, solved_done}
use Rattle.assoc_matching.proofs.matching.match_by_lapjv_with.Goals as goal

pub solve_rows-counts-requires : goal.solve_rows-counts-requires
solve_rows-counts-requires c = record { some = c.requires.some; square = c.requires.ready.room-work; rows = c.requires.rows }

pub write_pairs-pairs-requires : goal.write_pairs-pairs-requires
write_pairs-pairs-requires c =
    solved_room _ _ _ c.solve_rows-counts.ensures c.requires.some c.requires.ready.room-boxes c.requires.ready.room-tracks

pub returns : goal.returns
returns c =
    let solved = c.solve_rows-counts in
    let a = c.args in
    solved_done a.cost.cells.now a.cost.nrows a.cost.ncols (match_lent_with a.boxes.now a.tracks.now a.work.now)
    solved.ensures c.write_pairs-pairs.ensures (c.fill.ensures.after (λ y e. e) ∙ replicate_tab _ _ ∙ ap (tab (λ i. of_bits binary64 0)) solved.auto.work)
