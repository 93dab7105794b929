-- What an accepted call knows of its sizes. Assumes nothing.
use mathlib.Core.Path.{◌≡◌}
use Prim.Native.Nat.{ℕ, ◌*◌}
use lib.Dec.{ltb}
use borrow.Author.Tests.{ltb-false}
use Rattle.std.proofs.Common.{Ok}
use Rattle.refusals.specs.Refusal.{too_many}
use Rattle.refusals.proofs.Laws.{passed, few-sides}
use Rattle.boost_tracker_boosts.specs.Sizes.{of_boost, other_boxes}
use Rattle.boost_tracker_boosts.proofs.Laws.{boxes_fit}
use Rattle.boost_tracker_duo.specs.Private.{DuoReady}

pub duo-ready : (boxes tracks detections distance scores : ℕ) → of_boost boxes tracks detections distance scores ≡ Ok tt → DuoReady tracks detections distance scores × (scores ≡ boxes)
duo-ready boxes tracks detections distance scores e =
    let a = passed (too_many boxes tracks) (other_boxes boxes detections scores) (ltb distance (boxes * tracks)) e in
    let b = boxes_fit boxes detections scores a.sized in
    let n : scores ≡ boxes = b.1 in
    (record { few = rw n (few-sides boxes tracks a.few).0; detections_fit = rw n b.0; room = rw n (ltb-false distance (boxes * tracks) a.enough) }, n)
