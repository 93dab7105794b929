-- The answers of `duo::duo_confidence_boost`: it meets its contract: a refused call leaves the scores, and an accepted one boosts where the early returns are passed. Assumes nothing.
use mathlib.Core.Path.{◌∙◌, sym}
use Rattle.std.proofs.Common.{rules, ◌≡◌, Err}
use Rattle.boost_tracker_duo.proofs.CandidateLaws.{duo-none, duo-some}
use Rattle.boost_tracker_duo.proofs.Verdicts.{duo-ready}
use Rattle.boost_tracker_duo.proofs.duo.duo_confidence_boost.Goals as goal

pub returns-then-tracks-frames : goal.returns-then-tracks-frames
returns-then-tracks-frames c =
    let w = c.args in
    record { answer = sym c.in_ok-of_boost.was ∙ c.of_boost.ensures; boosted = duo-none w.frames w.thresh w.detections.now _ w.boxes w.tracks w.scores.now c.if-tracks-frames.true }

pub duo-requires : goal.duo-requires
duo-requires c =
    let w = c.args in
    (duo-ready w.boxes w.tracks _ _ _ (sym c.of_boost.ensures ∙ c.in_ok-of_boost.was)).0

pub returns : goal.returns
returns c =
    let w = c.args in
    record {
      answer = sym c.in_ok-of_boost.was ∙ c.of_boost.ensures;
      boosted = c.duo.ensures ∙ duo-some w.frames w.thresh w.detections.now _ w.boxes w.tracks w.scores.now
          c.if-tracks-frames.false (duo-ready w.boxes w.tracks _ _ _ (sym c.of_boost.ensures ∙ c.in_ok-of_boost.was)).1;
    }

pub returns-in_err-of_boost : goal.returns-in_err-of_boost
returns-in_err-of_boost c =
    let e : c.from_residual.result ≡ Err c.in_err-of_boost.field-0.0 = search rules in
    rw e (record { answer = sym c.in_err-of_boost.was ∙ c.of_boost.ensures; boosted = search rules })
