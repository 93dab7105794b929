-- A track: `KalmanBoxTracker` of strack.rs, lines 14-185 without `camera_update`, and the two conversions, lines 197-219. The accessors are the fields: since is time_since_update, streak is hit_streak.
-- The counters are u64 and wrap, as usize does in the Rust's release build for 64 bits.
use Rattle.std.specs.Prelude.{ℕ, ◌+◌, ◌-◌, ◌%◌, ◌^◌, cond, ℤ, pos, negsuc, ◌==◌, nat_lt, Float, Result, Ok, Err}
use Rattle.floats.specs.Power.{powi}
use Rattle.strack.specs.declared.rect.Xyxy.{Xyxy}
use Rattle.strack_filter.specs.declared.kalman_filter.DetectBox.{DetectBox}
use Rattle.strack_filter.specs.declared.kalman_filter.KalmanFilter.{KalmanFilter}
use Rattle.strack.specs.declared.strack.KalmanBoxTracker.{KalmanBoxTracker}
use Rattle.strack_filter.specs.KalmanFilter as kalman
use Rattle.strack.specs.Rect.{width_of}
use Rattle.floats.specs.Single.{◌⊕◌, ◌⊖◌, ◌⊘◌, two, millionth}

abbrev pub convert_bbox_to_z : Xyxy → DetectBox
convert_bbox_to_z bbox =
    let w : Float = bbox.x2 ⊖ bbox.x1 in
    let h : Float = bbox.y2 ⊖ bbox.y1 in
    record { x = bbox.x1 ⊕ w ⊘ two; y = bbox.y1 ⊕ h ⊘ two; h = h; r = w ⊘ (h ⊕ millionth) }

abbrev pub convert_z_to_bbox : DetectBox → Xyxy
convert_z_to_bbox z =
    let h : Float = z.h in
    let w : Float = width_of h z.r in
    record { x1 = z.x ⊖ w ⊘ two; y1 = z.y ⊖ h ⊘ two; x2 = z.x ⊕ w ⊘ two; y2 = z.y ⊕ h ⊘ two }

unfoldable pub new : Xyxy → ℕ → KalmanBoxTracker
new bbox id = record { kf = kalman.new (convert_bbox_to_z bbox); id = id; since = 0; streak = 0; age = 0 }

-- n + m of two u64
abbrev pub wrapping_add : ℕ → ℕ → ℕ
wrapping_add n m = (n + m) % 2 ^ 64

-- `as i32` of 64 bits: the 32 lowest, the highest of them the sign
unfoldable pub as_i32 : ℕ → ℤ
as_i32 n =
    let low = n % 2 ^ 32 in
    cond (nat_lt low (2 ^ 31)) (pos low) (negsuc (2 ^ 32 - 1 - low))

-- the 64 bits of 7 - age, or of time since update - 1
unfoldable pub exponent : ℕ → ℕ → ℕ
exponent age since = cond (nat_lt age 7) (7 - age) (wrapping_add since (2 ^ 64 - 1))

unfoldable pub confidence : ℕ → ℕ → Float → Float
unfolding as_i32 exponent
confidence age since coef = powi coef (as_i32 (exponent age since))

abbrev pub get_confidence : KalmanBoxTracker → Float → Float
get_confidence t coef = confidence t.age t.since coef

-- t with a corrected filter: time_since_update = 0, hit_streak += 1
unfoldable pub hit : KalmanBoxTracker → KalmanFilter → KalmanBoxTracker
hit t k = record { kf = k; id = t.id; since = 0; streak = wrapping_add t.streak 1; age = t.age }

-- a refusal of the filter goes on, and then the track comes back unchanged
unfoldable pub update : KalmanBoxTracker → Xyxy → ℕ × KalmanBoxTracker
unfolding hit
update t bbox =
    let u : ℕ × KalmanFilter = kalman.update t.kf (convert_bbox_to_z bbox) in
    cond (u.0 == 0) (0, hit t u.1) (u.0, t)

-- what an answer says: document 01's number, 0 where it is accepted, and the track handed back
abbrev pub track_answer : Result KalmanBoxTracker KalmanBoxTracker → ℕ × KalmanBoxTracker
track_answer (Ok t) = (0, t)
track_answer (Err t) = (12, t)

unfoldable pub predict : KalmanBoxTracker → KalmanBoxTracker
predict t = record {
  kf = kalman.predict t.kf;
  id = t.id;
  since = wrapping_add t.since 1;
  streak = cond (nat_lt 0 t.since) 0 t.streak;
  age = wrapping_add t.age 1;
}

-- the measured half of the state, and of the covariance's diagonal
abbrev pub get_kf_state : KalmanBoxTracker → DetectBox
get_kf_state t = record { x = t.kf.x.p; y = t.kf.y.p; h = t.kf.h.p; r = t.kf.r.p }

abbrev pub get_kf_covariance_diag : KalmanBoxTracker → DetectBox
get_kf_covariance_diag t = record { x = t.kf.x.a; y = t.kf.y.a; h = t.kf.h.a; r = t.kf.r.a }

unfoldable pub get_state : KalmanBoxTracker → Xyxy
get_state t = convert_z_to_bbox (get_kf_state t)
