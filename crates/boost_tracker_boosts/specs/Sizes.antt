-- The sizes that a call must have, as document 01's Pairs has them: 31 more than 255 boxes or tracks, 32 a slice of another size than its sides say, 33 a work slice too short.
-- Four floats for each box in a list of corners, a score for each, a cell for each box and track in a matrix.
use Rattle.std.specs.Prelude.{⊤, Result, Ok, Err, Bool, not, ◌||◌, List, ℕ, ◌*◌, ltb, eqb, Float}
use Rattle.refusals.specs.declared.refusal.Refusal.{Refusal}
use Rattle.refusals.specs.Refusal.{too_many, verdict}

-- of the boxes: their corners and scores
abbrev pub other_boxes : ℕ → ℕ → ℕ → Bool
other_boxes boxes detections scores = not (eqb detections (boxes * 4)) || not (eqb scores boxes)

abbrev pub of_boost : ℕ → ℕ → ℕ → ℕ → ℕ → Result ⊤ Refusal
of_boost boxes tracks detections distance scores = verdict (too_many boxes tracks) (other_boxes boxes detections scores) (ltb distance (boxes * tracks))

-- the boost's scores, or all as they were
abbrev pub boosted_by : Result ⊤ Refusal → List Float → List Float → List Float
boosted_by (Ok _) boosted scores = boosted
boosted_by (Err why) boosted scores = scores
