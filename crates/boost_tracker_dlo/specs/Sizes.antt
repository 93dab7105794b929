-- The sizes that a call must have, as document 01's Pairs has them: 31 more than 255 boxes or tracks, 32 a slice of another size than its sides say, 33 a result or work slice too short.
-- Four floats for each box and each track in a list of corners, one for each in the others, a cell for each box and track in a matrix.
use Rattle.std.specs.Prelude.{ℕ, ◌*◌, Bool, not, ◌||◌, ◌==◌, nat_lt, ⊤, Result}
use Rattle.refusals.specs.declared.refusal.Refusal.{Refusal}
use Rattle.refusals.specs.Refusal.{too_many, verdict}
use Rattle.boost_tracker_boosts.specs.Sizes.{other_boxes}

-- of the tracks: their corners, confidences and times since update
abbrev pub other_tracks : ℕ → ℕ → ℕ → ℕ → Bool
other_tracks tracks corners confidences since = (not (corners == tracks * 4) || not (confidences == tracks)) || not (since == tracks)

abbrev pub of_dlo : ℕ → ℕ → ℕ → ℕ → ℕ → ℕ → ℕ → ℕ → Result ⊤ Refusal
of_dlo boxes tracks detections corners confidences since distance scores =
    verdict (too_many boxes tracks) (other_tracks tracks corners confidences since || other_boxes boxes detections scores) (nat_lt distance (boxes * tracks))
