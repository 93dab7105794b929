-- The answers of `duo::duo`: it meets its contract: nothing where there are no candidates, and their boost elsewhere. Assumes nothing.
use Rattle.std.proofs.Common.{ℕ, sym, arith, replicate, length-take-le}
use Rattle.boost_tracker_duo.proofs.CandidateLaws.{duo-empty, duo-few, duo-full, duo-listed}
use Rattle.boost_tracker_duo.proofs.duo.duo.Goals as goal

pub slice_bounds-boost-end : goal.slice_bounds-boost-end
slice_bounds-boost-end c =
    let w = c.args in
    sym (length-take-le _ _ (duo-few _ w.detections.now _ _ w.scores.now c.boost_candidates-count.ensures (omega (arith, length-take-le {A = ℕ} _ (replicate 255 0) c.requires.few))))

pub boost-requires : goal.boost-requires
boost-requires c = duo-listed _ c.args.detections.now _ _ c.args.scores.now c.boost_candidates-count.ensures c.requires.few c.requires.detections_fit

pub returns-then-count-gt0 : goal.returns-then-count-gt0
returns-then-count-gt0 c =
    let some = c.if-count-gt0.true in
    duo-full _ c.args.detections.now _ _ c.args.scores.now c.boost_candidates-count.ensures (λ e. omega (arith, some, e)) c.boost.ensures

pub returns-else-count-gt0 : goal.returns-else-count-gt0
returns-else-count-gt0 c = let none = c.if-count-gt0.false in duo-empty _ c.args.detections.now _ _ c.args.scores.now c.boost_candidates-count.ensures (omega (arith, none))
