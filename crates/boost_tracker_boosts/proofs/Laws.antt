-- What sizes are where they fit: of the boxes, and any three. Assumes nothing.
use mathlib.Core.Path.{◌≡◌}
use mathlib.Core.Bool.{false, not, ◌||◌}
use Prim.Native.Nat.{ℕ, ◌*◌}
use lib.Dec.{eqb}
use Rattle.laws.specs.Tests.{or_none}
use Rattle.refusals.proofs.Laws.{same_size}
use Rattle.boost_tracker_boosts.specs.Sizes.{other_boxes}

pub boxes_fit : (boxes detections scores : ℕ) → other_boxes boxes detections scores ≡ false → (detections ≡ boxes * 4) × (scores ≡ boxes)
boxes_fit boxes detections scores e =
    let s = or_none (not (eqb detections (boxes * 4))) (not (eqb scores boxes)) e in
    (same_size detections (boxes * 4) s.0, same_size scores boxes s.1)

-- three sizes, as they are tested
pub three_fit : (a a' b b' c c' : ℕ) → ((not (eqb a a') || not (eqb b b')) || not (eqb c c')) ≡ false → (a ≡ a') × (b ≡ b') × (c ≡ c')
three_fit a a' b b' c c' e =
    let s = or_none (not (eqb a a') || not (eqb b b')) (not (eqb c c')) e in
    let t = or_none (not (eqb a a')) (not (eqb b b')) s.0 in
    (same_size a a' t.0, same_size b b' t.1, same_size c c' s.1)
