-- What the layer above wants of the definition: states that were gathered from the trackers give the Rust's matrix. Assumes nothing.
use mathlib.Core.Path.{◌≡◌, refl, sym, ap, ◌∙◌}
use mathlib.Core.List.{List}
use Prim.Native.Nat.{ℕ, ◌*◌, ◌<◌}
use lib.ListN.{get_or, drop}
use lib.Seq.{get_or-take, get_or-drop}
use lib.Ieee.{Float, nan}
use Rattle.laws.specs.Fold.{fold_ext}
use Rattle.laws.specs.Packed.{packed, packed-at}
use Rattle.laws.specs.Grid.{grid, cell_at, grid_ext}
use Rattle.floats.specs.Single.{plus_zero as 0·0}
use Rattle.strack_filter.specs.declared.kalman_filter.DetectBox.{DetectBox}
use Rattle.strack.specs.declared.strack.KalmanBoxTracker.{KalmanBoxTracker}
use Rattle.strack.specs.Strack.{get_kf_state, get_kf_covariance_diag}
use Rattle.boost_tracker_mh_dist.specs.MhDist.{row, z, reciprocals, mh_dist, get_mh_dist_matrix}

-- a row of four, stored for each tracker
stored : (f : ℕ → DetectBox) (l : List Float) (tracks j k : ℕ) → j < tracks → k < 4 → cell_at nan 4 (packed (λ i. row (f i)) 4 l tracks) j k ≡ get_or (row (f j)) k nan
stored f l tracks j k h b =
    sym (get_or-drop (j * 4) (packed (λ i. row (f i)) 4 l tracks) k nan) ∙ sym (get_or-take 4 (drop (j * 4) (packed (λ i. row (f i)) 4 l tracks)) k nan b)
    ∙ ap (λ (r : List Float). get_or r k nan) (packed-at (λ i. row (f i)) 4 l (λ i. refl) tracks j h)

pub mh_gathered : (detections : List Float) (trackers : ℕ → KalmanBoxTracker) (l k out : List Float) (boxes tracks : ℕ)
    → grid (mh_dist (z detections) (cell_at nan 4 (packed (λ j. row (get_kf_state (trackers j))) 4 l tracks)) (cell_at nan 4 (packed (λ j. row (reciprocals (get_kf_covariance_diag (trackers j)))) 4 k tracks))) boxes tracks out
    ≡ grid (get_mh_dist_matrix detections trackers) boxes tracks out
unfolding mh_dist
mh_gathered detections trackers l k out boxes tracks =
    grid_ext _ boxes tracks out _
    (λ i j hi hj. fold_ext _ _ 0·0 4 (λ dist d b. rw (stored (λ m. get_kf_state (trackers m)) l tracks j d hj b, stored (λ m. reciprocals (get_kf_covariance_diag (trackers m))) k tracks j d hj b)))
