-- The two ends of a public call: refused with nothing changed, and accepted. Assumes nothing.
use mathlib.Core.Path.{◌≡◌, sym, ◌∙◌}
use mathlib.Core.List.{List}
use Prim.Native.Nat.{ℕ}
use lib.Ieee.{Float}
use lib.ListN.{length}
use Rattle.refusals.specs.declared.refusal.Refusal.{Refusal}
use Rattle.std.specs.Bool.{⊤}
use Rattle.std.proofs.Common.{Result, Ok, Err}
use Rattle.assoc_assignment.specs.Assignment.{Assignment, linear_assignment}
use Rattle.assoc_assignment.specs.Answers.{room_of, Lent, lent_after, assignment_counts, call_with, assignment_verdict, assignment_call}

module _ (boxes tracks : ℕ) (iou cost : List Float) (threshold : Float) (l : Lent) where
  abbrev asked : Result ⊤ Refusal
  asked = assignment_verdict boxes tracks (length iou) (length cost) (room_of l.lists) (length l.work)

  abbrev assigned : Assignment
  assigned = linear_assignment iou cost boxes tracks threshold

  pub assignment-refused : {v : Result ⊤ Refusal} {why : Refusal} → v ≡ asked → v ≡ Err why → call_with (Err why) l ≡ assignment_call boxes tracks iou cost threshold l
  unfolding assignment_call
  assignment-refused e f = rw (sym e ∙ f)

  pub assignment-accepted : asked ≡ Ok tt → call_with (Ok (assignment_counts assigned)) (lent_after assigned l) ≡ assignment_call boxes tracks iou cost threshold l
  unfolding assignment_call
  assignment-accepted e = rw e
