-- What holds of an accepted call of linear_assignment, of the definition alone. Assumes nothing.
use mathlib.Core.Path.{◌≡◌}
use mathlib.Core.Bool.{true}
use mathlib.Core.List.{List}
use Prim.Native.Nat.{ℕ, ◌+◌, ◌*◌, ◌<◌}
use lib.Ieee.{Float, nan, le}
use lib.ListN.{length, get_or}
use Rattle.refusals.proofs.Laws.{accepted_of}
use Rattle.std.proofs.Common.{Ok}
use Rattle.assoc_matching.specs.Matching.{pair}
use Rattle.assoc_assignment.specs.Assignment.{Assignment, valid_match, linear_assignment}
use Rattle.assoc_assignment.specs.Account.{Accounted}
use Rattle.assoc_assignment.specs.Answers.{room_of, Lent, assignment_verdict, assignment_call}
use Rattle.assoc_assignment.proofs.AnswerLaws.{assignment-ready}
use Rattle.assoc_assignment.proofs.AccountLaws.{accounted}

module _ (boxes tracks : ℕ) (iou cost : List Float) (threshold : Float) (l : Lent) where
  -- its number is 0 only where no condition of a refusal holds
  pub assignment-passes : (assignment_call boxes tracks iou cost threshold l).number ≡ 0 → assignment_verdict boxes tracks (length iou) (length cost) (room_of l.lists) (length l.work) ≡ Ok tt
  unfolding assignment_call
  assignment-passes e = accepted_of _ e

  pub assignment_account : (assignment_call boxes tracks iou cost threshold l).number ≡ 0 → Accounted (valid_match iou tracks threshold) boxes tracks (linear_assignment iou cost boxes tracks threshold)
  assignment_account e =
      let ready = assignment-ready boxes tracks (length iou) (length cost) (room_of l.lists) (length l.work) (assignment-passes e) in
      accounted (valid_match iou tracks threshold) cost boxes tracks threshold ready.few-rows ready.few-cols

-- where they stand by linear_assignment's test, every pair's IoU is at least the threshold
pub stands-iou : (iou : List Float) (boxes tracks : ℕ) (threshold : Float) (a : Assignment) → Accounted (valid_match iou tracks threshold) boxes tracks a
    → (k : ℕ) → k < length a.matches → le threshold (get_or iou ((get_or a.matches k (pair 0 0)).box * tracks + (get_or a.matches k (pair 0 0)).track) nan) ≡ true
unfolding valid_match
stands-iou iou boxes tracks threshold a w k h = w.stands k h
