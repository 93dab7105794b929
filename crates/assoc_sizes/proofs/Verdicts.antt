-- What an accepted call of a matrix routine knows of its sizes. Assumes nothing.
use mathlib.Core.Path.{◌≡◌}
use mathlib.Core.Bool.{Bool, false, not, ◌||◌}
use Prim.Native.Nat.{ℕ, ◌*◌}
use lib.Dec.{ltb, eqb}
use borrow.Author.Tests.{ltb-false}
use Rattle.laws.specs.Tests.{or_none}
use Rattle.std.proofs.Common.{Ok}
use Rattle.refusals.specs.Refusal.{too_many}
use Rattle.assoc_sizes.specs.Sizes.{of_corners, of_confidences, of_cells, of_distances, Ready, Roomy}
use Rattle.refusals.proofs.Laws.{passed, few-sides, same_size}

-- a list of corners for the boxes and one for the tracks, as of_corners tests them
abbrev misfit : ℕ → ℕ → ℕ → ℕ → Bool
misfit boxes tracks detections corners = not (eqb detections (boxes * 4)) || not (eqb corners (tracks * 4))

corners_fit : (boxes tracks detections corners : ℕ) → misfit boxes tracks detections corners ≡ false → (detections ≡ boxes * 4) × (corners ≡ tracks * 4)
corners_fit boxes tracks detections corners e =
    let s = or_none (not (eqb detections (boxes * 4))) (not (eqb corners (tracks * 4))) e in
    (same_size detections (boxes * 4) s.0, same_size corners (tracks * 4) s.1)

pub ready : (boxes tracks detections corners out : ℕ) → of_corners boxes tracks detections corners out ≡ Ok tt → Ready boxes tracks detections corners out
ready boxes tracks detections corners out e =
    let a = passed (too_many boxes tracks) (misfit boxes tracks detections corners) (ltb out (boxes * tracks)) e in
    let s = corners_fit boxes tracks detections corners a.sized in
    record { detections_fit = s.0; corners_fit = s.1; room = ltb-false out (boxes * tracks) a.enough }

pub ready-soft : (boxes tracks detections corners confidences out : ℕ) → of_confidences boxes tracks detections corners confidences out ≡ Ok tt → Ready boxes tracks detections corners out
ready-soft boxes tracks detections corners confidences out e =
    let a = passed (too_many boxes tracks) (not (eqb confidences tracks) || misfit boxes tracks detections corners) (ltb out (boxes * tracks)) e in
    let s = corners_fit boxes tracks detections corners (or_none (not (eqb confidences tracks)) (misfit boxes tracks detections corners) a.sized).1 in
    record { detections_fit = s.0; corners_fit = s.1; room = ltb-false out (boxes * tracks) a.enough }

pub roomy : (boxes tracks cells : ℕ) → of_cells boxes tracks cells ≡ Ok tt → Roomy boxes tracks cells
roomy boxes tracks cells e =
    let a = passed (too_many boxes tracks) false (ltb cells (boxes * tracks)) e in
    record { room = ltb-false cells (boxes * tracks) a.enough; few = (few-sides boxes tracks a.few).1 }

pub distances_fit : (boxes tracks distance out : ℕ) → of_distances boxes tracks distance out ≡ Ok tt → (distance ≡ boxes * tracks) × Roomy boxes tracks out
distances_fit boxes tracks distance out e =
    let a = passed (too_many boxes tracks) (not (eqb distance (boxes * tracks))) (ltb out (boxes * tracks)) e in
    (same_size distance (boxes * tracks) a.sized, record { room = ltb-false out (boxes * tracks) a.enough; few = (few-sides boxes tracks a.few).1 })
