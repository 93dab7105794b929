-- What the layers above want of the definition: over a matrix that was stored the boost is that of the matrix's cells. Assumes nothing.
use mathlib.Core.Path.{◌≡◌, ap}
use mathlib.Core.List.{List}
use Prim.Native.Nat.{ℕ, ◌<◌}
use lib.Ieee.{Float, nan}
use Rattle.laws.specs.Fold.{fold_ext}
use Rattle.laws.specs.Grid.{grid, cell_at, grid-at}
use Rattle.laws.specs.Picked.{picked_ext}
use Rattle.floats_pick.specs.Pick.{smaller}
use Rattle.boost_tracker_duo.specs.Duo.{max_f32, min_mh_dist, is_candidate, boost_candidates, duo_confidence_boost}

candidates_ext : (f g : ℕ → ℕ → Float) (thresh : Float) (boxes tracks : ℕ) (scores : List Float) → ((i j : ℕ) → i < boxes → j < tracks → f i j ≡ g i j)
    → boost_candidates f thresh boxes tracks scores ≡ boost_candidates g thresh boxes tracks scores
unfolding boost_candidates is_candidate min_mh_dist
candidates_ext f g thresh boxes tracks scores e =
    picked_ext _ _ boxes
    (λ i h. let least : min_mh_dist f tracks i ≡ min_mh_dist g tracks i = fold_ext (λ m j. smaller m (f i j)) (λ m j. smaller m (g i j)) max_f32 tracks (λ m j k. ap (smaller m) (e i j h k)) in rw least)

pub duo-over : (frame_count : ℕ) (thresh : Float) (det_bboxes : List Float) (cell : ℕ → ℕ → Float) (l : List Float) (boxes tracks : ℕ) (scores : List Float)
    → duo_confidence_boost frame_count thresh det_bboxes (cell_at nan tracks (grid cell boxes tracks l)) boxes tracks scores ≡ duo_confidence_boost frame_count thresh det_bboxes cell boxes tracks scores
unfolding duo_confidence_boost
duo-over frame_count thresh det_bboxes cell l boxes tracks scores =
    rw (candidates_ext (cell_at nan tracks (grid cell boxes tracks l)) cell thresh boxes tracks scores (λ i j hi hj. grid-at cell boxes tracks l nan i j hi hj))
