-- `frame::finish` meets its contract: the records of all tracks are put out, the tracks too old retired with their labels, and the places behind the others cleared. Assumes nothing.
use mathlib.Core.Path.{sym}
use native.Mathlib.Omega.{arith}
use lib.Seq.{length-take-le}
use Rattle.boost_tracker.proofs.FrameLaws.{finish-is}
use Rattle.boost_tracker.proofs.frame.finish.Goals as goal

-- what was asked, seen from the last clearing
pub overflow_add-last : goal.overflow_add-last
overflow_add-last c = let p = c.requires in omega (arith, p.ids_fit, p.few-started)

pub returns : goal.returns
returns c =
    let a = c.args in
    finish-is a.settings a.state a.advanced a.floats.now a.counters.now a.labels.now a.out.now c.requires c.places_in-places.ensures c.emit-emitted.ensures
    c.retire_labels.ensures c.retire-count.ensures c.clear_beyond.ensures c.clear_labels.ensures

pub slice_bounds-emit-end : goal.slice_bounds-emit-end
slice_bounds-emit-end c = omega (arith, c.requires.placed)

pub slice_bounds-emit-end-2 : goal.slice_bounds-emit-end-2
slice_bounds-emit-end-2 c = sym (length-take-le _ _ (omega (arith, c.requires.placed)))
