-- What is printed for an answer of `why`: the line of an explanation; a refusal of the frame as trackbox prints it, with the record that it names; 81 by its name.
use Rattle.std.specs.Prelude.{◌≡◌, Bool, cond, List, ℕ, length, Option, Some, None, Result, Ok, Err}
use Rattle.laws.specs.Splice.{splice}
use Rattle.records_line.specs.Line.{refused_line}
use Rattle.boost_tracker_verdict.specs.Verdict.{number}
use Rattle.boost_tracker_fate.specs.declared.kinds.Explanation.{Explanation}
use Rattle.boost_tracker_why.specs.declared.refusal.WhyRefusal.{WhyRefusal}
use Rattle.boost_tracker_why.specs.declared.refusal.WhyRefusal.TheVariants.{Frame, NoBox}
use Rattle.why_words.specs.Words.{explanation_line, no_box_line}
use Rattle.why_question.specs.declared.question.Question.{Question}

abbrev pub bytes_of : Option ℕ → ℕ
bytes_of (Some n) = n
bytes_of None = 0

abbrev pub answer_text : Question → ℕ → ℕ → Result Explanation WhyRefusal → List ℕ
answer_text q first boxes (Ok e) = explanation_line q.frame q.index e
answer_text q first boxes (Err (Frame why)) = refused_line (number why) first
answer_text q first boxes (Err NoBox) = no_box_line q.frame q.index boxes

-- xs at the front of a text, where it fits
pub record Says (fits : Bool) (xs text : List ℕ) (n : ℕ) (text' : List ℕ) : Type 0 where
  pub many : n ≡ cond fits (length xs) 0
  pub cells : text' ≡ cond fits (splice text 0 xs) text
