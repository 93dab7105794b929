-- `matching::match_by_lapjv` meets its contract. The local array is lent with a byte for each row. Assumes nothing.
use Rattle.std.proofs.Common.{sym, arith, length-take-le}
use Rattle.assoc_matching.proofs.matching.match_by_lapjv.Goals as goal

pub slice_bounds-match_by_lapjv_with-end : goal.slice_bounds-match_by_lapjv_with-end
slice_bounds-match_by_lapjv_with-end c = sym (length-take-le _ _ (omega (arith, c.requires.ready.sides.few-rows)))

pub match_by_lapjv_with-requires : goal.match_by_lapjv_with-requires
match_by_lapjv_with-requires c = record { ready = c.requires.ready; some = c.requires.some; rows = length-take-le _ _ (omega (arith, c.requires.ready.sides.few-rows)) }

pub slice_bounds-partner-end : goal.slice_bounds-partner-end
slice_bounds-partner-end c = omega (arith, c.requires.ready.sides.few-rows)

pub returns : goal.returns
returns c = c.match_by_lapjv_with.ensures
