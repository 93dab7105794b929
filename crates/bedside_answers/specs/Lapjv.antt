-- `bedside_lapjv_answer` of include/bedside.h: an answer of `lapjv` as the scope document's number and the two counts.
use Rattle.std.specs.Prelude.{◌≡◌, List, ℕ, Float, Result}
use Rattle.lapjv.specs.Answers.{Counts, Answered, number_of, turns_of, scans_of}
use Rattle.lapjv.specs.declared.Refusal.{Refusal}
use Rattle.bedside_answers.specs.declared.assignment.LapjvAnswer.{LapjvAnswer}

abbrev pub in_c : Result Counts Refusal → LapjvAnswer
in_c a = record { refusal = number_of a; turns = turns_of a; scans = scans_of a }

-- r is in C's form what `lapjv` answers, and the slices are as it leaves them
pub record InC (n : ℕ) (cost : List Float) (x y : List ℕ) (r : LapjvAnswer) (x' y' : List ℕ) : Type 0 where
  pub answer : Result Counts Refusal
  pub given : r ≡ in_c answer
  pub answered : Answered n cost x y answer x' y'
