-- What a call of `advance` answers and leaves in lent memory. The verdict is the table's; g is the definition's value.
use Rattle.std.specs.Prelude.{List, ℕ, length, Float, ⊤, Result, Ok, Err}
use Rattle.assoc_matching.specs.Answers.{zeroed}
use Rattle.assoc.specs.Answers.{cleared}
use Rattle.boost_tracker_verdict.specs.declared.refusal.Refusal.{Refusal}
use Rattle.boost_tracker_settings.specs.declared.settings.Settings.{Settings}
use Rattle.boost_tracker_verdict.specs.declared.sound.State.{State}
use Rattle.boost_tracker_table.specs.Lent.{Table, table_with, tracks_in, labels_in, laid_over, Call, call_with}
use Rattle.boost_tracker_verdict.specs.Boxes.{Boxes}
use Rattle.boost_tracker_verdict.specs.Verdict.{verdict, where_accepted}
use Rattle.boost_tracker_definition.specs.Update.{Stages, update, labels_started}
use Rattle.boost_tracker_steps.specs.declared.all_steps.Advanced.{Advanced}

-- ---- the answer

abbrev pub accepted_advance : Stages → Advanced
accepted_advance g = record { started = length g.result.unmatched_detections; turns = g.result.turns; scans = g.result.scans }

-- by the verdict on the frame
abbrev pub answer_of : Stages → Result ⊤ Refusal → Result Advanced Refusal
answer_of g (Ok _) = Ok (accepted_advance g)
answer_of g (Err why) = Err why

-- ---- lent memory

pub record Lent : Type 0 where
  pub table : Table
  pub work64 : List Float
  pub work32 : List Float

abbrev pub lent_with : List Float → List ℕ → List ℕ → List Float → List Float → Lent
lent_with floats counters labels work64 work32 = record { table = table_with floats counters labels; work64 = work64; work32 = work32 }

-- all trackers after step 7 with their labels over the front of the table, and zeros in the work slices
abbrev pub lent_after : Stages → List ℕ → Lent → Lent
lent_after g all l = record { table = laid_over g.started.trackers all l.table; work64 = zeroed l.work64; work32 = cleared l.work32 }

-- ---- a call

-- by the length of the output that the caller has; a refused call changes nothing
unfoldable pub advanced : Settings → State → Boxes → ℕ → Lent → Call (Result Advanced Refusal) Lent
advanced s state boxes room l =
    let v : Result ⊤ Refusal = verdict s state l.table boxes room (length l.work64) (length l.work32) in
    let labels : List ℕ = labels_in l.table state.count in
    let g : Stages = update s state boxes (tracks_in l.table state.count) labels in
    call_with (answer_of g v) (where_accepted v (lent_after g (labels_started boxes.labels labels g) l) l)
