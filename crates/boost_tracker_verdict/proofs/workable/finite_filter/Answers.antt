-- `workable::finite_filter` meets its contract. Assumes nothing.
use lib.Ieee.Scale.{finite}
use Rattle.boost_tracker_table.specs.Table.{pair_floats}
use Rattle.boost_tracker_verdict.proofs.Finite.{every-lists}
use Rattle.boost_tracker_verdict.proofs.workable.finite_filter.Goals as goal

pub returns : goal.returns
returns c =
    let k = c.args.kf in
    rw (c.finite_pair.ensures, c.finite_pair-2.ensures, c.finite_pair-3.ensures, c.finite_pair-4.ensures)
    (every-lists finite (pair_floats k.x) (pair_floats k.y) (pair_floats k.h) (pair_floats k.r))
