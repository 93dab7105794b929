-- What a call of `why` answers and leaves in lent memory: the frame's refusals in their order; "then 81 an index not below the number of boxes". "Lent what a frame is, it leaves table, frame count and output unchanged."
use Rattle.std.specs.Prelude.{cond, List, ℕ, ltb, length, Float, ⊤, Result, Ok, Err}
use Rattle.assoc_matching.specs.Answers.{zeroed}
use Rattle.assoc.specs.Answers.{cleared}
use Rattle.boost_tracker_settings.specs.declared.settings.Settings.{Settings}
use Rattle.boost_tracker_table.specs.Lent.{Table, tracks_in, labels_in, Call, call_with}
use Rattle.boost_tracker_verdict.specs.declared.refusal.Refusal.{Refusal}
use Rattle.boost_tracker_verdict.specs.declared.sound.State.{State}
use Rattle.boost_tracker_verdict.specs.Boxes.{Boxes}
use Rattle.boost_tracker_verdict.specs.Verdict.{number, index, boxes_in, verdict, where_accepted}
use Rattle.boost_tracker_definition.specs.Update.{Stages, update}
use Rattle.boost_tracker_fate.specs.declared.kinds.Explanation.{Explanation}
use Rattle.boost_tracker_why.specs.declared.refusal.WhyRefusal.{WhyRefusal}
use Rattle.boost_tracker_why.specs.declared.refusal.WhyRefusal.TheVariants.{Frame, NoBox}
use Rattle.boost_tracker_why.specs.Why.{explanation}

-- the number of a refusal, and with 16 and 20 the index of the box
abbrev pub refusal_number : WhyRefusal → ℕ × ℕ
refusal_number (Frame why) = (number why, index why)
refusal_number NoBox = (81, 0)

-- those of an answer
abbrev pub why_number : Result Explanation WhyRefusal → ℕ × ℕ
why_number (Ok e) = (0, 0)
why_number (Err why) = refusal_number why

-- ---- lent memory: the table and the output are only read

pub record Work : Type 0 where
  pub work64 : List Float
  pub work32 : List Float

abbrev pub work_with : List Float → List Float → Work
work_with work64 work32 = record { work64 = work64; work32 = work32 }

-- ---- a call

-- where there is nothing to explain
abbrev pub turned_down : Result ⊤ Refusal → Result Explanation WhyRefusal
turned_down (Ok _) = Err NoBox
turned_down (Err why) = Err (Frame why)

-- by the length of the output, and the index of the box; a refused call changes nothing
unfoldable pub why_call : Settings → State → Boxes → Table → ℕ → ℕ → Work → Call (Result Explanation WhyRefusal) Work
why_call s state boxes t room b l =
    let v : Result ⊤ Refusal = verdict s state t boxes room (length l.work64) (length l.work32) in
    let labels : List ℕ = labels_in t state.count in
    let g : Stages = update s state boxes (tracks_in t state.count) labels in
    where_accepted v
    (cond (ltb b (boxes_in boxes.values)) (call_with (Ok (explanation g boxes labels b)) (work_with (zeroed l.work64) (cleared l.work32))) (call_with (Err NoBox) l))
    (call_with (turned_down v) l)
