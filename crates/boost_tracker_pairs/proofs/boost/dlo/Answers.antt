-- `boost::dlo` meets its contract: distances where they are wanted, the times, and boost, or nothing. Assumes nothing.
use mathlib.Core.Path.{◌≡◌, sym, ◌∙◌}
use mathlib.Core.List.{◌++◌}
use Prim.Native.Nat.{◌≤◌}
use native.Mathlib.Omega.{arith}
use lib.ListN.{length, drop, replicate}
use lib.Seq.{length-take-le, take_at}
use Rattle.labels.specs.Label.{same_label, alike}
use Rattle.boost_tracker_pairs.specs.Private.{predicted_in}
use Rattle.boost_tracker_pairs.proofs.BoostLaws.{dlo-is, dlo-done, dlo-left, front-in}
use Rattle.boost_tracker_pairs.proofs.boost.dlo.Goals as goal
use Rattle.boost_tracker_pairs.proofs.boost.dlo.Goals.{After-since, then-settings, else-settings}

-- the times are those of the tracks
timed : (c : After-since) → length c.since.new.out ≡ c.args.held
timed c = c.since.auto.out ∙ length-take-le c.args.held _ (omega (arith, c.requires.sizes.few-tracks))

in_array : (c : After-since) → c.args.held ≤ length (c.since.new.out ++ drop c.args.held (replicate 255 0))
in_array c = front-in c.since.new.out (drop c.args.held (replicate 255 0)) c.args.held (timed c)

pub slice_bounds-since-end : goal.slice_bounds-since-end
slice_bounds-since-end c = sym (length-take-le _ _ (omega (arith, c.requires.sizes.few-tracks)))

pub since-requires : goal.since-requires
since-requires c = record { sizes = (length-take-le _ _ (omega (arith, c.requires.sizes.few-tracks)), c.requires.tracks.placed); low = c.requires.low }

pub slice_bounds-times-end-then-settings-held : goal.slice_bounds-times-end-then-settings-held
slice_bounds-times-end-then-settings-held c = in_array (goal.at.slice_bounds-times-end-then-settings-held c).After-since

pub slice_bounds-dlo_confidence_boost-end : goal.slice_bounds-dlo_confidence_boost-end
slice_bounds-dlo_confidence_boost-end c = sym (length-take-le _ _ (in_array (goal.at.slice_bounds-dlo_confidence_boost-end c).After-since))

pub returns-after-settings : goal.returns-after-settings
returns-after-settings c = λ s.
    let a = c.args in
    let like = alike same_label a.box_labels.now a.track_labels.now in
    let ts = predicted_in a.floats.now a.counters.now a.held in
    let boost = c.dlo_confidence_boost.ensures in
    dlo-done like a.settings a.corners.now a.trks.now a.confs.now ts a.held s.many a.work.now a.scores.now c.if-settings-held.true
    (dlo-is like a.settings a.corners.now a.trks.now a.confs.now ts a.held s.many a.work.now a.scores.now
    c.requires.sizes c.requires.tracks (length-take-le _ _ (in_array (goal.at.returns-after-settings c).After-since)) c.dlo_settings.ensures
    (take_at c.since.new.out (drop a.held (replicate 255 0)) a.held (timed (goal.at.returns-after-settings c).After-since) ∙ c.since.ensures)
    (elim c.if-settings.branch [ then-settings w ↦ rw w.if-settings.true (w.work-is ∙ w.mh_dist.ensures ts s) | else-settings w ↦ rw w.if-settings.false w.work-is ])
    c.if-settings.auto.work boost.answer boost.boosted)

pub returns-else-settings-held : goal.returns-else-settings-held
returns-else-settings-held c = λ s.
    let a = c.args in
    dlo-left (alike same_label a.box_labels.now a.track_labels.now) a.settings a.corners.now a.trks.now a.confs.now (predicted_in a.floats.now a.counters.now a.held) a.held s.many a.work.now
    a.scores.now c.if-settings-held.false
