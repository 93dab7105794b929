-- The sum over the four dimensions, written out. Assumes nothing.
use mathlib.Core.Path.{◌≡◌}
use mathlib.Core.List.{List}
use Prim.Native.Nat.{ℕ, ◌+◌, ◌*◌}
use native.Mathlib.Omega.{arith}
use lib.Ieee.{Float, nan}
use Rattle.laws.specs.Fold.{fold}
use Rattle.laws.specs.Grid.{cell_at}
use Rattle.strack.specs.Strack.{convert_bbox_to_z}
use Rattle.boost_tracker_mh_dist.specs.MhDist.{det, z, mh_dist}
use Rattle.boost_tracker_mh_dist.specs.Private.{distance_to}

pub distance_is : (detections x sigma : List Float) (i j : ℕ)
    → distance_to (convert_bbox_to_z (det detections i)) x sigma j ≡ mh_dist (z detections) (cell_at nan 4 x) (cell_at nan 4 sigma) i j
unfolding mh_dist fold
distance_is detections x sigma i j = let e : j * 4 + 0 ≡ j * 4 = omega arith in rw e
