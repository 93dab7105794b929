-- `table::clear_beyond` meets its contract. Assumes nothing.
use Rattle.std.proofs.Common.{min, rules, refl, length, arith}
use Rattle.floats.specs.Single.{plus_zero}
use Rattle.boost_tracker_table.specs.Table.{place_floats, place_counters, floats_of, counters_of}
use Rattle.boost_tracker_table.proofs.Laws.{placed-room, tracks-placed, lay_here}
use Rattle.boost_tracker_table.proofs.Walks.{zeroed}
use Rattle.boost_tracker_table.proofs.table.clear_beyond.Goals as goal

pub returns : goal.returns
returns c =
    let a = c.args in
    let few = min a.held a.places in
    let room = placed-room (length a.floats.now) (length a.counters.now) a.places in
    let here = lay_here a.floats.now a.counters.now few in
    let many = tracks-placed a.floats.now a.counters.now few in
    let end = c.placed-end.ensures in
    let first = c.min-first.ensures in
    rw (← end) (record {
      floats = zeroed floats_of place_floats (λ _. refl) plus_zero _ _ here.floats (omega (arith, many, end, first)) (omega (arith, end, first)) (omega (arith, end, room.in-floats)) (c.fill.ensures.after (search rules));
      counters = zeroed counters_of place_counters (λ _. refl) 0 _ _ here.counters (omega (arith, many, end, first)) (omega (arith, end, first)) (omega (arith, end, room.in-counters)) (c.fill-2.ensures.after (search rules));
    })
