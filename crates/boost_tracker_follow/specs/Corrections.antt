-- What a call of `follow` answers and leaves: the tracks are corrected and started where the counts are within their lists, every index is of a box, the table has the places, and the ids fit 64 bits.
use Rattle.std.specs.Prelude.{Bool, false, cond, ◌&&◌, List, ◌++◌, ℕ, ◌+◌, ◌-◌, ◌*◌, ◌/◌, ◌≤◌, ◌<◌, leb, ltb, length, get_or, take, Float, Result, Ok, Err}
use Rattle.laws.specs.Scan.{lowest}
use Rattle.refusals.specs.declared.refusal.Refusal.{Refusal}
use Rattle.refusals.specs.declared.refusal.Refusal.TheVariants.{OtherSize, TooShort}
use Rattle.assoc_assignment.specs.declared.assignment.AssignmentCounts.{AssignmentCounts}
use Rattle.boost_tracker_table.specs.Table.{Track}
use Rattle.boost_tracker_table.specs.Lent.{Table, places_of, tracks_in, labels_in, laid_over, Call, call_with}
use Rattle.boost_tracker_definition.specs.Plain.{corrected_by, started_by, started_labels}

-- ---- the tests

-- every index is below n
unfoldable pub inside : List ℕ → ℕ → Bool
inside indices n = leb (length indices) (lowest (λ k. leb n (get_or indices k 0)) (length indices))

unfoldable pub fits : ℕ → ℕ → ℕ → AssignmentCounts → ℕ → ℕ → ℕ → Bool
fits held places last counts pair_boxes pair_tracks unmatched =
    let pairs : ℕ = counts.pairs in
    let started : ℕ = counts.detections in
    cond (ltb places held) false
    ((leb started (places - held) && (leb pairs pair_boxes && leb pairs pair_tracks)) && (leb started unmatched && ltb last 18446744073709551361))

-- the indices are of boxes, given by the length of their corners
abbrev pub Listed : List ℕ → ℕ → Type 0
Listed indices corners = (k : ℕ) → k < length indices → get_or indices k 0 * 4 + 4 ≤ corners

-- ---- a call

-- the matched tracks corrected, and those started behind them
abbrev pub tracks_after : ℕ → ℕ → List Float → List ℕ → List ℕ → List ℕ → Table → List Track
tracks_after held last corners pair_boxes pair_tracks unmatched t = corrected_by corners pair_boxes pair_tracks (tracks_in t held) ++ started_by last corners unmatched

-- the labels of the held tracks, and of their boxes those of the started ones
abbrev pub labels_after : ℕ → List ℕ → List ℕ → Table → List ℕ
labels_after held box_labels unmatched t = labels_in t held ++ started_labels box_labels unmatched

-- by lists that have no more than what is counted
unfoldable pub followed_listed : ℕ → ℕ → List Float → List ℕ → AssignmentCounts → List ℕ → List ℕ → List ℕ → Table → Call (Result AssignmentCounts Refusal) Table
followed_listed held last corners box_labels counts pair_boxes pair_tracks unmatched t =
    cond (inside pair_boxes (length corners / 4) && inside unmatched (length corners / 4))
    (call_with (Ok counts) (laid_over (tracks_after held last corners pair_boxes pair_tracks unmatched t) (labels_after held box_labels unmatched t) t))
    (call_with (Err OtherSize) t)

-- the counts again where that was done; where it was not, the table is as it was
unfoldable pub followed : ℕ → ℕ → List Float → List ℕ → AssignmentCounts → List ℕ → List ℕ → List ℕ → Table → Call (Result AssignmentCounts Refusal) Table
followed held last corners box_labels counts pair_boxes pair_tracks unmatched t =
    cond (fits held (places_of t) last counts (length pair_boxes) (length pair_tracks) (length unmatched))
    (followed_listed held last corners box_labels counts (take counts.pairs pair_boxes) (take counts.pairs pair_tracks) (take counts.detections unmatched) t)
    (call_with (Err TooShort) t)
