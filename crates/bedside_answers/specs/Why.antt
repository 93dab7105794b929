-- `bedside_explanation` of include/bedside.h: an answer of `why` as the number of its refusal, with 16 and 20 the index of the box, and what is told of the box, the fate by its number; all 0 where it is refused.
use Rattle.std.specs.Prelude.{ℕ, Result, Ok, Err}
use Rattle.floats.specs.Single.{plus_zero}
use Rattle.boost_tracker_table.specs.Lent.{Call, call_with}
use Rattle.boost_tracker_fate.specs.declared.kinds.Explanation.{Explanation}
use Rattle.boost_tracker_fate.specs.Fate.{fate_number, fate_id}
use Rattle.boost_tracker_why.specs.declared.refusal.WhyRefusal.{WhyRefusal}
use Rattle.boost_tracker_why.specs.Answers.{why_number, Work}
use Rattle.bedside_answers.specs.declared.why.Explained.{Explained}

abbrev pub unexplained : ℕ → ℕ → Explained
unexplained refusal index = record {
  refusal = refusal;
  index = index;
  fate = 0;
  id = 0;
  score = plus_zero;
  score_dlo = plus_zero;
  score_duo = plus_zero;
  paired_id = 0;
  iou = plus_zero;
  intersection = plus_zero;
  union_area = plus_zero;
}

abbrev pub explained_in_c : Explanation → Explained
explained_in_c e = record {
  refusal = 0;
  index = 0;
  fate = fate_number e.fate;
  id = fate_id e.fate;
  score = e.score;
  score_dlo = e.score_dlo;
  score_duo = e.score_duo;
  paired_id = e.partner.id;
  iou = e.partner.iou;
  intersection = e.partner.intersection;
  union_area = e.partner.union;
}

abbrev pub why_in_c : Result Explanation WhyRefusal → Explained
why_in_c (Ok e) = explained_in_c e
why_in_c (Err why) = unexplained (why_number (Err why)).0 (why_number (Err why)).1

-- the answer of a call in C's form, and memory as it leaves it
abbrev pub call_in_c : Call (Result Explanation WhyRefusal) Work → Call Explained Work
call_in_c k = call_with (why_in_c k.answer) k.lent
