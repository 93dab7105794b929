-- `boost::boost` meets its contract: DLO, a score read, then DUO of the scores that DLO left. Assumes nothing.
use Rattle.boost_tracker_pairs.specs.Private.{predicted_in}
use Rattle.boost_tracker_pairs.proofs.boost.boost.Goals as goal

pub duo-requires : goal.duo-requires
duo-requires c = let first = c.dlo in rw (first.auto.work, first.auto.scores) c.requires.sizes

pub returns : goal.returns
returns c = λ s.
    let a = c.args in
    let ts = predicted_in a.floats.now a.counters.now a.held in
    rw (← c.dlo.ensures s) (c.score_at-once.ensures, c.duo.ensures ts s)
