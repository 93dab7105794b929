-- `table::predict_all` meets its contract. The loop's invariant: the tracks before i are predicted in their places, and the rest is as it was. Assumes nothing.
use mathlib.Core.Path.{ap, ◌∙◌}
use lib.ListN.{length}
use Rattle.strack.specs.Strack.{predict}
use Rattle.boost_tracker_table.proofs.Laws.{placed-room}
use Rattle.boost_tracker_table.proofs.Walks.{walk_start, walk_next, walk_on, walk_all}
use Rattle.boost_tracker_table.proofs.table.predict_all.Goals as goal

pub loop-i-init : goal.loop-i-init
loop-i-init c = let a = c.args in walk_start _ _ _ (rw c.placed-n.ensures (placed-room (length a.floats.now) (length a.counters.now) a.held))

pub loop-i-preserved : goal.loop-i-preserved
loop-i-preserved c =
    let w = c.loop-i.invariant in
    let next = c.predict.ensures ∙ ap predict (c.track_at-t.ensures ∙ walk_next _ _ _ w) in
    walk_on _ _ _ w c.loop-i-test.true next c.put_track.ensures.floats c.put_track.ensures.counters

pub returns : goal.returns
returns c = walk_all predict _ _ _ _ _ c.placed-n.ensures c.loop-i.invariant c.loop-i-test.false
