-- `gather::predicted` meets its contract. Assumes nothing.
use mathlib.Core.Path.{◌∙◌, ap}
use Rattle.strack.specs.Strack.{predict}
use Rattle.boost_tracker_pairs.proofs.GatherLaws.{predicted-at}
use Rattle.boost_tracker_pairs.proofs.gather.predicted.Goals as goal

pub returns : goal.returns
returns c = let a = c.args in c.predict.ensures ∙ ap predict c.load-t.ensures ∙ predicted-at a.floats.now a.counters.now a.held c.requires.1 a.j c.requires.0
