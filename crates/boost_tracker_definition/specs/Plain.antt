-- Steps 6 and 7 of the definition in plainer words, as the code's contracts cite them: pairs correct tracks one after the other, and each unmatched box starts a track. And what step 3 leaves: every retained score
-- passes the threshold. `all_above`, `matched-is` and `started-is` of proofs/PlainLaws.antt say that they are the definition's.
use Rattle.std.specs.Prelude.{◌≡◌, true, List, map, ℕ, ◌+◌, ◌<◌, length, get_or, Float}
use Rattle.std.specs.Float.{nan}
use Rattle.std.specs.Float.Ieee.{le}
use Rattle.laws.specs.Tab.{tab}
use Rattle.laws.specs.Fold.{fold}
use Rattle.labels.specs.Label.{label_at}
use Rattle.strack.specs.Strack.{new}
use Rattle.boost_tracker_mh_dist.specs.MhDist.{det}
use Rattle.boost_tracker_table.specs.Table.{Track, corrected}

-- ---- step 3

-- each of these scores is at least the threshold
abbrev pub Above : Float → List Float → Type 0
Above thresh probs = (k : ℕ) → k < length probs → le thresh (get_or probs k nan) ≡ true

-- ---- step 6

-- pair k corrects track k of the one list by box k of the other
abbrev pub correct_one : List Float → List ℕ → List ℕ → List Track → ℕ → List Track
correct_one corners pair_boxes pair_tracks ts k = corrected ts (get_or pair_tracks k 0) (det corners (get_or pair_boxes k 0))

unfoldable pub corrected_by : List Float → List ℕ → List ℕ → List Track → List Track
corrected_by corners pair_boxes pair_tracks trackers = fold (correct_one corners pair_boxes pair_tracks) trackers (length pair_boxes)

-- ---- step 7

-- a track for each box of the list, with the ids after the last one
abbrev pub start_at : ℕ → List Float → List ℕ → ℕ → Track
start_at last corners unmatched k = new (det corners (get_or unmatched k 0)) (last + k + 1)

unfoldable pub started_by : ℕ → List Float → List ℕ → List Track
started_by last corners unmatched = tab (start_at last corners unmatched) (length unmatched)

-- and their labels
unfoldable pub started_labels : List ℕ → List ℕ → List ℕ
started_labels box_labels unmatched = map (label_at box_labels) unmatched
