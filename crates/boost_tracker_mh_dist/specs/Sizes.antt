-- The sizes that a call must have, as document 01's Pairs has them: 31 more than 255 boxes or tracks, 32 a slice of another size than its sides say, 33 a result slice too short.
-- Four floats for each box in a list of corners and for each track in a list of states, a cell for each box and track in a matrix.
use Rattle.std.specs.Prelude.{not, ◌||◌, ℕ, ◌*◌, ltb, eqb, ⊤, Result}
use Rattle.refusals.specs.declared.refusal.Refusal.{Refusal}
use Rattle.refusals.specs.Refusal.{too_many, verdict}

abbrev pub of_states : ℕ → ℕ → ℕ → ℕ → ℕ → ℕ → Result ⊤ Refusal
of_states boxes tracks detections x sigma_inv out =
    verdict (too_many boxes tracks)
    ((not (eqb detections (boxes * 4)) || not (eqb x (tracks * 4))) || not (eqb sigma_inv (tracks * 4)))
    (ltb out (boxes * tracks))
