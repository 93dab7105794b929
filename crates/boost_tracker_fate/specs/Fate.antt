-- Document 02, N9: "matched to a track, started as a new id unpaired, under the score threshold after both boosts, or rejected as a pair and started as a new id. Each but the third gives the id of the track matched
-- or started."
use Rattle.std.specs.Prelude.{cond, List, [], ◌∷◌, ℕ, suc, eqb}
use Rattle.boost_tracker_fate.specs.declared.kinds.Fate.{Fate}
use Rattle.boost_tracker_fate.specs.declared.kinds.Fate.TheVariants.{Matched, Started, UnderThreshold, Rejected}

-- the fates as 02 counts them, and the id of each but the third
abbrev pub fate_number : Fate → ℕ
fate_number (Matched id) = 1
fate_number (Started id) = 2
fate_number UnderThreshold = 3
fate_number (Rejected id) = 4

abbrev pub fate_id : Fate → ℕ
fate_id (Matched id) = id
fate_id (Started id) = id
fate_id UnderThreshold = 0
fate_id (Rejected id) = id

-- the first place of k in a list, or the list's length
unfoldable pub place_in : ℕ → List ℕ → ℕ
place_in k [] = 0
place_in k (x ∷ xs) = cond (eqb k x) 0 (suc (place_in k xs))
