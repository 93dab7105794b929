-- What a caller needs of a track without reading the definitions: each counter after new, predict and a correction; when a correction is accepted; that a new track, once predicted, can be corrected.
-- Assumes nothing.
use Rattle.std.proofs.Common.{◌≡◌, ℕ, ◌+◌, ◌-◌, ◌^◌, ◌<◌, ◌≤◌, Bool, true, false, cond, ltb, refl, arith}
use lib.Ieee.{of_bits, add}
use Rattle.strack.specs.declared.rect.Xyxy.{Xyxy}
use Rattle.strack_filter.specs.declared.kalman_filter.KalmanFilter.{KalmanFilter}
use Rattle.strack.specs.declared.strack.KalmanBoxTracker.{KalmanBoxTracker}
use Rattle.strack_filter.specs.KalmanFilter as kalman
use Rattle.strack_filter.specs.KalmanFilter.{updatable}
use Rattle.strack.specs.Strack.{convert_bbox_to_z, new, predict, hit, update}

-- ---- a new track
module _ (bbox : Xyxy) (id : ℕ) where
  pub new_id : (new bbox id).id ≡ id
  unfolding new
  new_id = refl

  pub new_since : (new bbox id).since ≡ 0
  unfolding new
  new_since = refl

  pub new_streak : (new bbox id).streak ≡ 0
  unfolding new
  new_streak = refl

  pub new_age : (new bbox id).age ≡ 0
  unfolding new
  new_age = refl

  -- A + R is 10012, 10012, 10021 and 10011.01, whatever the box
  pub new-updatable : updatable (predict (new bbox id)).kf ≡ true
  unfolding new predict updatable of_bits add
  new-updatable = refl

-- ---- predict
module _ (t : KalmanBoxTracker) where
  pub predict_id : (predict t).id ≡ t.id
  unfolding predict
  predict_id = refl

  pub predict_since : t.since < 2 ^ 64 - 1 → (predict t).since ≡ t.since + 1
  unfolding predict
  predict_since h = omega arith

  pub predict_age : t.age < 2 ^ 64 - 1 → (predict t).age ≡ t.age + 1
  unfolding predict
  predict_age h = omega arith

  pub predict_streak_le : (predict t).streak ≤ t.streak
  unfolding predict
  predict_streak_le = go (ltb 0 t.since)
    where
      go : (b : Bool) → cond b 0 t.streak ≤ t.streak
      go true = omega arith
      go false = omega arith

-- ---- a correction: `hit t k` is t with the corrected filter k
module _ (t : KalmanBoxTracker) (k : KalmanFilter) where
  pub hit_id : (hit t k).id ≡ t.id
  unfolding hit
  hit_id = refl

  pub hit_since : (hit t k).since ≡ 0
  unfolding hit
  hit_since = refl

  pub hit_streak : t.streak < 2 ^ 64 - 1 → (hit t k).streak ≡ t.streak + 1
  unfolding hit
  hit_streak h = omega arith

  pub hit_age : (hit t k).age ≡ t.age
  unfolding hit
  hit_age = refl

module _ (t : KalmanBoxTracker) (bbox : Xyxy) where
  pub update-accepted : updatable t.kf ≡ true → update t bbox ≡ (0, hit t (kalman.updated t.kf (convert_bbox_to_z bbox)))
  unfolding update kalman.update
  update-accepted h = rw h

  pub update-refused : updatable t.kf ≡ false → update t bbox ≡ (12, t)
  unfolding update kalman.update
  update-refused h = rw h
