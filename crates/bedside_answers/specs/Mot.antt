-- `bedside_mot_answer` of include/bedside.h: an answer of `mot_line` as document 02's number and the frame number of the record, 0 where there is none.
use Rattle.std.specs.Prelude.{◌≡◌, List, ℕ, Result}
use Rattle.mot_line.specs.declared.call.Refusal.{Refusal}
use Rattle.mot_line.specs.Call.{refusal_number, frame_read, mot_line}
use Rattle.bedside_answers.specs.declared.mot.MotAnswer.{MotAnswer}

abbrev pub answered_in_c : Result ℕ Refusal → MotAnswer
answered_in_c a = record { refusal = refusal_number a; frame = frame_read a }

-- r is in C's form what a call answers, and the slice is as the call leaves it
pub record LineInC (l : List ℕ) (previous : ℕ) (out : List ℕ) (r : MotAnswer) (out' : List ℕ) : Type 0 where
  pub answer : r ≡ answered_in_c (mot_line l previous out).answer
  pub cells : out' ≡ (mot_line l previous out).out
