-- What only private contracts cite: a distance as the code works it, and what the loops ask of their callers.
use Rattle.std.specs.Prelude.{◌≡◌, List, ℕ, ◌+◌, ◌*◌, ◌≤◌, get_or, Float}
use Rattle.std.specs.Float.{nan}
use Rattle.strack_filter.specs.declared.kalman_filter.DetectBox.{DetectBox}
use Rattle.floats.specs.Single.{◌⊕◌, ◌⊖◌, ◌⊗◌, plus_zero}

abbrev pub part : Float → Float → Float → Float
part z x sigma = (z ⊖ x) ⊗ (z ⊖ x) ⊗ sigma

-- the distance of a state and track j, written out
abbrev pub distance_to : DetectBox → List Float → List Float → ℕ → Float
distance_to z x sigma j =
    plus_zero ⊕ part z.x (get_or x (j * 4) nan) (get_or sigma (j * 4) nan)
    ⊕ part z.y (get_or x (j * 4 + 1) nan) (get_or sigma (j * 4 + 1) nan)
    ⊕ part z.h (get_or x (j * 4 + 2) nan) (get_or sigma (j * 4 + 2) nan)
    ⊕ part z.r (get_or x (j * 4 + 3) nan) (get_or sigma (j * 4 + 3) nan)

pub record Stated (boxes tracks detections x sigma out : ℕ) : Type 0 where
  pub detections_fit : detections ≡ boxes * 4
  pub x_fits : x ≡ tracks * 4
  pub sigma-fits : sigma ≡ tracks * 4
  pub room : boxes * tracks ≤ out
