-- What a verdict tells: the sides and the room of an accepted call. Assumes nothing.
use mathlib.Core.Path.{◌≡◌}
use mathlib.Core.List.{List}
use mathlib.Core.Bool.{Bool, false, not, ◌||◌}
use Prim.Native.Nat.{ℕ, ◌*◌, ◌≤◌, max, min}
use lib.Dec.{ltb, eqb}
use lib.Ieee.{Float}
use lib.ListN.{length}
use borrow.Author.Tests.{ltb-false}
use Rattle.laws.specs.Tests.{or_none}
use Rattle.std.proofs.Common.{Ok}
use Rattle.refusals.proofs.Laws.{passed, few-sides, same_size}
use Rattle.assoc_matching.specs.Matching.{simple}
use Rattle.assoc_matching.specs.Partners.{Sized, PartnerReady}
use Rattle.assoc_matching.proofs.MatchLaws.{some-side}
use Rattle.assoc_assignment.specs.declared.assignment.Room.{Room}
use Rattle.assoc_assignment.specs.Answers.{assignment_short, assignment_verdict}
use Rattle.assoc_assignment.specs.Private.{ListRoom, AssignmentReady}

-- room in the lists and in the work slice
roomy : (boxes tracks : ℕ) (room : Room) (work : ℕ) → assignment_short boxes tracks room work ≡ false → ListRoom boxes tracks room × (max boxes tracks * max boxes tracks ≤ work)
roomy boxes tracks room work e =
    let few : ℕ = min boxes tracks in
    let n : ℕ = max boxes tracks in
    let left : Bool = ltb room.unmatched_detections boxes || ltb room.unmatched_tracks tracks in
    let r₁ = or_none ((left || ltb room.pair_boxes few) || ltb room.pair_tracks few) (ltb work (n * n)) e in
    let r₂ = or_none (left || ltb room.pair_boxes few) (ltb room.pair_tracks few) r₁.0 in
    let r₃ = or_none left (ltb room.pair_boxes few) r₂.0 in
    let r₄ = or_none (ltb room.unmatched_detections boxes) (ltb room.unmatched_tracks tracks) r₃.0 in
    let lists : ListRoom boxes tracks room = record {
      pairs_fit = ltb-false room.pair_boxes few r₃.1;
      partners_fit = ltb-false room.pair_tracks few r₂.1;
      boxes-all = ltb-false room.unmatched_detections boxes r₄.0;
      tracks-all = ltb-false room.unmatched_tracks tracks r₄.1;
    } in
    (lists, ltb-false work (n * n) r₁.1)

pub assignment-ready : (boxes tracks ious costs : ℕ) (room : Room) (work : ℕ) → assignment_verdict boxes tracks ious costs room work ≡ Ok tt → AssignmentReady boxes tracks ious costs room work
unfolding assignment_verdict
assignment-ready boxes tracks ious costs room work e =
    let p = passed _ _ _ e in
    let low = few-sides boxes tracks p.few in
    let sizes = or_none (not (eqb ious (boxes * tracks))) (not (eqb costs (boxes * tracks))) p.sized in
    let enough = roomy boxes tracks room work p.enough in
    record {
      few-rows = low.0;
      few-cols = low.1;
      long-iou = same_size ious (boxes * tracks) sizes.0;
      long-cost = same_size costs (boxes * tracks) sizes.1;
      room-lists = enough.0;
      room-work = enough.1;
    }

-- where the direct path is not open, lapjv_partners is asked what it accepts
pub partners_asked : (cost : List Float) (n m : ℕ) (t : Float) {rows work : ℕ} → Sized n m (length cost) → simple cost n m t ≡ false → max n m * max n m ≤ work → rows ≡ n → PartnerReady n m (length cost) rows work
partners_asked cost n m t sides closed room rows = record { sides = sides; rows = rows; some = some-side cost n m t closed; room-work = room }
