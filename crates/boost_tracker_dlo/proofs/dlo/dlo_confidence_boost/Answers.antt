-- The answers of `dlo::dlo_confidence_boost`: it meets its contract: a refused call hands the verdict back; an accepted one has the similarity of the distances, then the rows. Assumes nothing.
use Rattle.std.proofs.Common.{sym, ◌∙◌, refl, rules, ◌≡◌, Err}
use Rattle.boost_tracker_dlo.proofs.DloLaws.{boost_is, boost_none, mhd_accepted, mhd_refused}
use Rattle.boost_tracker_dlo.proofs.Verdicts.{dlo-ready}
use Rattle.boost_tracker_dlo.proofs.dlo.dlo_confidence_boost.Goals as goal

pub returns-in_err-of_dlo : goal.returns-in_err-of_dlo
returns-in_err-of_dlo c =
    let w = c.args in
    let e : c.from_residual.result ≡ Err c.in_err-of_dlo.field-0.0 = search rules in
    rw e (record { answer = sym c.in_err-of_dlo.was ∙ c.of_dlo.ensures; work = mhd_refused w.q w.distance.now w.boxes w.tracks {why = c.in_err-of_dlo.field-0.0} refl; boosted = search rules })

pub distance_similarity-requires : goal.distance_similarity-requires
distance_similarity-requires c =
    let w = c.args in
    (dlo-ready w.boxes w.tracks _ _ _ _ _ _ (sym c.of_dlo.ensures ∙ c.in_ok-of_dlo.was)).measured

pub returns-then-tracks-eq0 : goal.returns-then-tracks-eq0
returns-then-tracks-eq0 c =
    let w = c.args in
    let told = c.in_ok-of_dlo.was in
    let left = c.distance_similarity.ensures in
    let none = boost_none _ w.q w.detections.now w.trks.now w.confs.now _ _ w.boxes w.tracks w.scores.now c.if-tracks-eq0.true in
    record { answer = sym told ∙ c.of_dlo.ensures; work = mhd_accepted w.q w.distance.now w.boxes w.tracks refl left; boosted = none }

pub boost_rows-requires : goal.boost_rows-requires
boost_rows-requires c =
    let w = c.args in
    let p = dlo-ready w.boxes w.tracks _ _ _ _ _ _ (sym c.of_dlo.ensures ∙ c.in_ok-of_dlo.was) in
    rw (p.scores_fit, p.since_fits, c.distance_similarity.auto.distance) (record { detections_fit = p.detections_fit; room = p.measured.room })

pub returns : goal.returns
returns c =
    let w = c.args in
    let told = c.in_ok-of_dlo.was in
    let p = dlo-ready w.boxes w.tracks _ _ _ _ _ _ (sym c.of_dlo.ensures ∙ told) in
    let left = c.distance_similarity.ensures in
    let rows = c.boost_rows.ensures ∙ boost_is w.q w.detections.now w.trks.now w.confs.now w.distance.now _ w.since.now w.box_labels.now w.track_labels.now
    w.boxes w.tracks w.scores.now p.scores_fit p.since_fits left c.if-tracks-eq0.false in
    record { answer = sym told ∙ c.of_dlo.ensures; work = mhd_accepted w.q w.distance.now w.boxes w.tracks refl left; boosted = rows }
