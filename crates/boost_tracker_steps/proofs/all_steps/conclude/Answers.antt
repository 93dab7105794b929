-- `all_steps::conclude` meets its contract: the pairs are found and followed. Assumes nothing.
use mathlib.Core.Path.{sym}
use native.Mathlib.Omega.{arith}
use lib.ListN.{length}
use lib.Seq.{length-take-le}
use Rattle.boost_tracker_pairs.specs.Pairs.{inputs_with}
use Rattle.boost_tracker_pairs.proofs.PairLaws.{roomy-fits}
use Rattle.boost_tracker_steps.proofs.AdvanceLaws.{ends-settled}
use Rattle.boost_tracker_steps.proofs.all_steps.conclude.Goals as goal

pub slice_bounds-settle-end : goal.slice_bounds-settle-end
slice_bounds-settle-end c =
    let a = c.args in
    sym (length-take-le _ _ (omega (
      arith,
      c.requires.few,
      (roomy-fits (length a.corners.now) (length a.kept_labels.now) (length a.scores.now) (length a.trks.now) (length a.confs.now) c.requires.roomy).corners_fit,
    )))

pub slice_bounds-settle-end-2 : goal.slice_bounds-settle-end-2
slice_bounds-settle-end-2 c =
    let a = c.args in
    sym (length-take-le _ _ (omega (
      arith,
      c.requires.few,
      (roomy-fits (length a.corners.now) (length a.kept_labels.now) (length a.scores.now) (length a.trks.now) (length a.confs.now) c.requires.roomy).labels_fit,
    )))

pub returns : goal.returns
returns c =
    let a = c.args in
    let found = c.pairs-paired in
    ends-settled a.settings a.state a.prepared (inputs_with a.corners.now a.kept_labels.now a.scores.now a.trks.now a.confs.now)
    a.floats.now a.counters.now a.labels.now a.work64.now a.work32.now
    found.result c.requires.roomy found.auto.pair_boxes found.auto.pair_tracks found.auto.unmatched found.ensures c.settle.ensures
