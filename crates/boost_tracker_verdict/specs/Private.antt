-- What only the contracts between private functions cite.
use Rattle.std.specs.Prelude.{Bool, ◌&&◌, List, ◌++◌, ℕ, leb, ltb, Float}
use Rattle.strack_filter.specs.declared.kalman_filter.KalmanFilter.{KalmanFilter}
use Rattle.boost_tracker_table.specs.Table.{Track, pair_floats}
use Rattle.boost_tracker_verdict.specs.Sound.{counters_in}

-- what a sound table's track is, behind one with the id low
abbrev pub orderly : ℕ → ℕ → ℕ → Track → Bool
orderly last frames low t = (ltb low t.id && leb t.id last) && counters_in frames t

abbrev pub id_of : ℕ → Track → ℕ
id_of low t = t.id

abbrev pub filter_floats : KalmanFilter → List Float
filter_floats k = pair_floats k.x ++ (pair_floats k.y ++ (pair_floats k.h ++ pair_floats k.r))
