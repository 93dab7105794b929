-- What an accepted call of associate knows. Assumes nothing.
use mathlib.Core.Path.{◌≡◌, refl, sym, ap, ◌∙◌}
use mathlib.Core.Bool.{Bool, true, false, not, ◌&&◌, ◌||◌}
use mathlib.Core.List.{List}
use Prim.Native.Nat.{ℕ, ◌*◌, ◌≤◌, max}
use native.Mathlib.Nat.{mul-le-mul, le-max_left, le-max_right}
use native.Mathlib.Omega.{arith}
use lib.Dec.{ltb, eqb}
use lib.ListN.{length}
use borrow.Author.Tests.{ltb-false, eq-eqb}
use Rattle.laws.specs.Tests.{or_none}
use Rattle.assoc_cost.specs.declared.cost.AssociateParams.{AssociateParams}
use Rattle.std.proofs.Common.{Ok}
use Rattle.refusals.specs.Refusal.{too_many}
use Rattle.refusals.proofs.Laws.{passed, labelled-passed, few-sides, same_size}
use Rattle.assoc_assignment.specs.declared.assignment.Room.{Room}
use Rattle.assoc_assignment.specs.Answers.{assignment_short, assignment_verdict}
use Rattle.assoc_verdict.specs.Verdict.{other_size, other_labels, associate_short, within_verdict, associate_sizes, associate_verdict, Cornered}

-- what an accepted call has been found to hold: corners that fit, and what linear_assignment accepts
pub record AssociateReady (boxes tracks detections corners : ℕ) (room : Room) (work64 work32 : ℕ) : Type 0 where
  pub cornered : Cornered boxes tracks detections corners work32
  pub assigned : assignment_verdict boxes tracks (boxes * tracks) (boxes * tracks) room work64 ≡ Ok tt

module _ (params : AssociateParams) (boxes tracks detections corners track_confidence detection_confidence : ℕ) (room : Room) (work64 work32 : ℕ) where
  -- past the tests of its own, within_verdict leaves the rest to linear_assignment's
  pub within-rest : too_many boxes tracks ≡ false → other_size params boxes tracks detections corners track_confidence detection_confidence ≡ false → ltb work32 (4 * (max boxes tracks * max boxes tracks)) ≡ false
      → assignment_verdict boxes tracks (boxes * tracks) (boxes * tracks) room work64
      ≡ within_verdict params boxes tracks detections corners track_confidence detection_confidence room work64 work32
  unfolding assignment_verdict within_verdict
  within-rest e f g = rw (e, f, g, eq-eqb (boxes * tracks) (boxes * tracks) refl)

  -- and associate_sizes to within_verdict
  pub sizes_rest : (mahalanobis box_labels track_labels : ℕ) → too_many boxes tracks ≡ false → (params.has_mahalanobis && not (eqb mahalanobis (boxes * tracks))) ≡ false
      → other_labels boxes tracks box_labels track_labels ≡ false
      → within_verdict params boxes tracks detections corners track_confidence detection_confidence room work64 work32
      ≡ associate_sizes params boxes tracks detections corners mahalanobis track_confidence detection_confidence box_labels track_labels room work64 work32
  unfolding within_verdict associate_sizes
  sizes_rest mahalanobis box_labels track_labels e f g = rw (e, f, g)

  -- what an accepted call knows
  pub within-ready : within_verdict params boxes tracks detections corners track_confidence detection_confidence room work64 work32 ≡ Ok tt
      → AssociateReady boxes tracks detections corners room work64 work32
  unfolding within_verdict
  within-ready e =
      let n : ℕ = max boxes tracks in
      let p = passed _ _ _ e in
      let low = few-sides boxes tracks p.few in
      let s = or_none (not (eqb detections (boxes * 4))) (not (eqb corners (tracks * 4))) (or_none (not (eqb detections (boxes * 4)) || not (eqb corners (tracks * 4))) _ p.sized).0 in
      let r = or_none (ltb work32 (4 * (n * n))) (assignment_short boxes tracks room work64) p.enough in
      let square : boxes * tracks ≤ n * n = mul-le-mul (le-max_left boxes tracks) (le-max_right boxes tracks) in
      let floats = ltb-false work32 (4 * (n * n)) r.0 in
      record {
        cornered = record { few-rows = low.0; few-cols = low.1; detections_fit = same_size detections (boxes * 4) s.0; corners_fit = same_size corners (tracks * 4) s.1; room = omega arith };
        assigned = within-rest p.few p.sized r.0 ∙ e;
      }

  sizes_ready : (mahalanobis box_labels track_labels : ℕ)
      → associate_sizes params boxes tracks detections corners mahalanobis track_confidence detection_confidence box_labels track_labels room work64 work32 ≡ Ok tt
      → AssociateReady boxes tracks detections corners room work64 work32 × (params.has_mahalanobis ≡ true → mahalanobis ≡ boxes * tracks)
  unfolding associate_sizes
  sizes_ready mahalanobis box_labels track_labels e =
      let far : Bool = params.has_mahalanobis && not (eqb mahalanobis (boxes * tracks)) in
      let size : Bool = other_size params boxes tracks detections corners track_confidence detection_confidence in
      let p = passed (too_many boxes tracks) (far || (other_labels boxes tracks box_labels track_labels || size)) (associate_short boxes tracks room work64 work32) e in
      let s = or_none far (other_labels boxes tracks box_labels track_labels || size) p.sized in
      let r = or_none (other_labels boxes tracks box_labels track_labels) size s.1 in (
        within-ready (sizes_rest mahalanobis box_labels track_labels p.few s.0 r.0 ∙ e),
        λ h. same_size mahalanobis (boxes * tracks) (ap (λ (b : Bool). b && not (eqb mahalanobis (boxes * tracks))) (sym h) ∙ s.0),
      )

  pub associate-ready : (mahalanobis : ℕ) (box_labels track_labels : List ℕ)
      → associate_verdict params boxes tracks detections corners mahalanobis track_confidence detection_confidence box_labels track_labels room work64 work32 ≡ Ok tt
      → AssociateReady boxes tracks detections corners room work64 work32 × (params.has_mahalanobis ≡ true → mahalanobis ≡ boxes * tracks)
  unfolding associate_verdict
  associate-ready mahalanobis box_labels track_labels e = sizes_ready mahalanobis (length box_labels) (length track_labels) (labelled-passed _ _ e).0
