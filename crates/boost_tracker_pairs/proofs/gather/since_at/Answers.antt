-- `gather::since_at` meets its contract. Assumes nothing.
use mathlib.Core.Path.{◌∙◌, ap}
use Rattle.strack.specs.declared.strack.KalmanBoxTracker.{KalmanBoxTracker}
use Rattle.strack.specs.Strack.{predict}
use Rattle.boost_tracker_pairs.proofs.GatherLaws.{predicted-at}
use Rattle.boost_tracker_pairs.proofs.gather.since_at.Goals as goal

pub returns : goal.returns
returns c =
    let a = c.args in
    c.since_predicted.ensures ∙ ap (λ (t : KalmanBoxTracker). (predict t).since) c.load-t.ensures
    ∙ ap (λ (t : KalmanBoxTracker). t.since) (predicted-at a.floats.now a.counters.now a.held c.requires.1 a.j c.requires.0)
