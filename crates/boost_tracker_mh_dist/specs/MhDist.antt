-- boost_tracker.rs, get_mh_dist_matrix, lines 417-468: cell (i, j) of the matrix. With no detections or no trackers it has no cells, which is what the Rust's early return gives.
-- `detections` has four corners for each box, and `trackers j` is tracker j.
use Rattle.std.specs.Prelude.{cond, List, [], ◌∷◌, ℕ, ◌+◌, ◌*◌, get_or, Float}
use Rattle.std.specs.Float.{nan, binary32}
use Rattle.std.specs.Float.Ieee.{lt, of_bits}
use Rattle.laws.specs.Fold.{fold}
use Rattle.strack.specs.declared.rect.Xyxy.{Xyxy}
use Rattle.strack_filter.specs.declared.kalman_filter.DetectBox.{DetectBox}
use Rattle.strack.specs.declared.strack.KalmanBoxTracker.{KalmanBoxTracker}
use Rattle.strack.specs.Strack.{convert_bbox_to_z, get_kf_state, get_kf_covariance_diag}
use Rattle.floats.specs.Single.{◌⊕◌, ◌⊖◌, ◌⊗◌, ◌⊘◌, plus_zero, one}

abbrev pub n_dims : ℕ
n_dims = 4

-- a state [x, y, h, r] as a row of a matrix
abbrev pub row : DetectBox → List Float
row state = state.x ∷ state.y ∷ state.h ∷ state.r ∷ []

abbrev pub det : List Float → ℕ → Xyxy
det detections i = record { x1 = get_or detections (i * 4) nan; y1 = get_or detections (i * 4 + 1) nan; x2 = get_or detections (i * 4 + 2) nan; y2 = get_or detections (i * 4 + 3) nan }

-- z: detection states
abbrev pub z : List Float → ℕ → ℕ → Float
z detections i j = get_or (row (convert_bbox_to_z (det detections i))) j nan

-- x: track states
abbrev pub x : (ℕ → KalmanBoxTracker) → ℕ → ℕ → Float
x trackers i j = get_or (row (get_kf_state (trackers i))) j nan

-- 1e-10 and 1e10
abbrev pub least : Float
least = of_bits binary32 0x2edb_e6ff

abbrev pub most : Float
most = of_bits binary32 0x5015_02f9

-- 1.0 / cov_diag[j], or 1e10 where cov_diag[j] is not above 1e-10
unfoldable pub reciprocal : Float → Float
reciprocal v = cond (lt least v) (one ⊘ v) most

abbrev pub reciprocals : DetectBox → DetectBox
reciprocals cov_diag = record { x = reciprocal cov_diag.x; y = reciprocal cov_diag.y; h = reciprocal cov_diag.h; r = reciprocal cov_diag.r }

abbrev pub sigma_inv : (ℕ → KalmanBoxTracker) → ℕ → ℕ → Float
sigma_inv trackers i j = get_or (row (reciprocals (get_kf_covariance_diag (trackers i)))) j nan

-- dist: the sum over k of (z - x)^2 * sigma_inv
unfoldable pub mh_dist : (ℕ → ℕ → Float) → (ℕ → ℕ → Float) → (ℕ → ℕ → Float) → ℕ → ℕ → Float
mh_dist z x sigma_inv i j = fold (λ dist k. dist ⊕ (z i k ⊖ x j k) ⊗ (z i k ⊖ x j k) ⊗ sigma_inv j k) plus_zero n_dims

abbrev pub get_mh_dist_matrix : List Float → (ℕ → KalmanBoxTracker) → ℕ → ℕ → Float
get_mh_dist_matrix detections trackers = mh_dist (z detections) (x trackers) (sigma_inv trackers)
