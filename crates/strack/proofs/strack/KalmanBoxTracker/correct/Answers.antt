-- `KalmanBoxTracker::correct` meets its contract: what the filter answered decides the case of the definition. Assumes nothing.
use Rattle.std.proofs.Common.{◌≡◌, ap, ◌∙◌, rules, Result, Ok, Err}
use Rattle.std.specs.Result.{MatchResult, IsErrAnd}
use Rattle.std.proofs.lemmas.Result.{err_from_is_err_and}
use Rattle.strack_filter.specs.declared.kalman_filter.KalmanFilter.{KalmanFilter}
use Rattle.strack_filter.specs.KalmanFilter.{filter_answer}
use Rattle.strack_filter.specs.KalmanFilter as kalman
use Rattle.strack.specs.declared.rect.Xyxy.{Xyxy}
use Rattle.strack.specs.declared.strack.KalmanBoxTracker.{KalmanBoxTracker}
use Rattle.strack.specs.Strack.{convert_bbox_to_z, hit, update}
use Rattle.strack.proofs.strack.KalmanBoxTracker.correct.Goals as goal

-- u is the filter's answer, and r the same with the track in place of a refused filter, as Q says
module _ (t : KalmanBoxTracker) (bbox : Xyxy) (r : Result KalmanFilter KalmanBoxTracker) (Q : KalmanFilter → KalmanBoxTracker → Type 0) where
  made : (u : Result KalmanFilter KalmanFilter) {k : KalmanFilter} → filter_answer u ≡ kalman.update t.kf (convert_bbox_to_z bbox)
      → MatchResult u (λ x. r ≡ Ok x) (λ e. IsErrAnd r (Q e)) → r ≡ Ok k → (0, hit t k) ≡ update t bbox
  unfolding update
  made (Ok u) {k} q m is = let same : u ≡ k = cc in rw (← q, same)
  made (Err u) q m is = let p = err_from_is_err_and r m in absurd (cc)

  failed : (u : Result KalmanFilter KalmanFilter) {e : KalmanBoxTracker} → filter_answer u ≡ kalman.update t.kf (convert_bbox_to_z bbox)
      → MatchResult u (λ x. r ≡ Ok x) (λ e. IsErrAnd r (Q e)) → r ≡ Err e → ((k : KalmanFilter) (a : KalmanBoxTracker) → Q k a → a ≡ t) → (12, e) ≡ update t bbox
  unfolding update
  failed (Ok u) q m is back = absurd (cc)
  failed (Err u) {e} q m is back =
      let p = err_from_is_err_and r m in
      let kept = back _ _ p.2 in
      let same : e ≡ t = cc in
      rw (← q, same)

pub returns-in_err-kf : goal.returns-in_err-kf
returns-in_err-kf c =
    let p = err_from_is_err_and c.from_residual.result c.from_residual.ensures.1 in
    let updates = c.update.ensures ∙ ap (kalman.update c.args.self.kf) c.convert_bbox_to_z.ensures in
    rw (p.1, p.2) (failed c.args.self c.args.bbox c.map_err.result _ c.update.result updates c.map_err.ensures.cases c.in_err-kf.was (λ k a q. search rules))

pub returns : goal.returns
unfolding hit
returns c =
    let updates = c.update.ensures ∙ ap (kalman.update c.args.self.kf) c.convert_bbox_to_z.ensures in
    made c.args.self c.args.bbox c.map_err.result _ c.update.result updates c.map_err.ensures.cases c.in_ok-kf.was
