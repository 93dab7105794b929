-- The sizes that a call of a matrix routine must have: 4 floats a box, a confidence a track, a cell for each box and track.
use Rattle.std.specs.Prelude.{◌≡◌, ⊤, Result, false, not, ◌||◌, List, ℕ, ◌*◌, ◌≤◌, ltb, eqb, Float}
use Rattle.laws.specs.Grid.{grid}
use Rattle.refusals.specs.declared.refusal.Refusal.{Refusal}
use Rattle.refusals.specs.Refusal.{too_many, verdict, where_accepted}

abbrev pub of_corners : ℕ → ℕ → ℕ → ℕ → ℕ → Result ⊤ Refusal
of_corners boxes tracks detections corners out =
    verdict (too_many boxes tracks) (not (eqb detections (boxes * 4)) || not (eqb corners (tracks * 4))) (ltb out (boxes * tracks))

abbrev pub of_confidences : ℕ → ℕ → ℕ → ℕ → ℕ → ℕ → Result ⊤ Refusal
of_confidences boxes tracks detections corners confidences out =
    verdict (too_many boxes tracks) (not (eqb confidences tracks) || (not (eqb detections (boxes * 4)) || not (eqb corners (tracks * 4)))) (ltb out (boxes * tracks))

abbrev pub of_cells : ℕ → ℕ → ℕ → Result ⊤ Refusal
of_cells boxes tracks cells = verdict (too_many boxes tracks) false (ltb cells (boxes * tracks))

abbrev pub of_distances : ℕ → ℕ → ℕ → ℕ → Result ⊤ Refusal
of_distances boxes tracks distance out = verdict (too_many boxes tracks) (not (eqb distance (boxes * tracks))) (ltb out (boxes * tracks))

-- lengths of two lists of corners and of a result slice that fit the sides
pub record Ready (boxes tracks detections corners out : ℕ) : Type 0 where
  pub detections_fit : detections ≡ boxes * 4
  pub corners_fit : corners ≡ tracks * 4
  pub room : boxes * tracks ≤ out

-- what a call leaves in the result slice: the matrix over its front, or all as it was
abbrev pub after : Result ⊤ Refusal → (ℕ → ℕ → Float) → ℕ → ℕ → List Float → List Float
after v cell boxes tracks out = where_accepted v (grid cell boxes tracks out) out

-- a slice that has room for the matrix, and sides whose sums fit a local array
pub record Roomy (boxes tracks cells : ℕ) : Type 0 where
  pub room : boxes * tracks ≤ cells
  pub few : tracks ≤ 255
