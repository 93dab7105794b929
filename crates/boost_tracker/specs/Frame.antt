-- What a call of `update` answers and leaves in lent memory: document 01, "When a call is turned down". The verdict is the table's; g is the definition's value.
use Rattle.std.specs.Prelude.{List, ℕ, length, Float, ⊤, Result, Ok}
use Rattle.laws.specs.Laid.{laid}
use Rattle.assoc_matching.specs.Answers.{zeroed}
use Rattle.assoc.specs.Answers.{cleared}
use Rattle.records.specs.TrackRecord.{track_bytes}
use Rattle.boost_tracker_verdict.specs.declared.refusal.Refusal.{Refusal}
use Rattle.boost_tracker_settings.specs.declared.settings.Settings.{Settings}
use Rattle.boost_tracker_verdict.specs.declared.sound.State.{State}
use Rattle.boost_tracker_table.specs.Lent.{Table, table_with, tracks_in, labels_in, holding, Call, call_with}
use Rattle.boost_tracker_emission.specs.Emission.{emitted_inds, bytes_at}
use Rattle.boost_tracker_verdict.specs.Boxes.{Boxes}
use Rattle.boost_tracker_verdict.specs.Verdict.{verdict, where_accepted}
use Rattle.boost_tracker.specs.declared.frame.UpdateAnswer.{UpdateAnswer}
use Rattle.boost_tracker_definition.specs.Update.{Stages, update, state_after, labels_started, labels_retained}

-- ---- the answer

-- of a refused frame: the state that was given, and no counts
abbrev pub refused_answer : Result ⊤ Refusal → State → UpdateAnswer
refused_answer v state = record { verdict = v; state = state; emitted = 0; turns = 0; scans = 0 }

abbrev pub accepted_answer : Stages → UpdateAnswer
accepted_answer g = record { verdict = Ok tt; state = state_after g; emitted = length g.output; turns = g.result.turns; scans = g.result.scans }

-- ---- lent memory

pub record Memory : Type 0 where
  pub table : Table
  pub output : List ℕ
  -- for the frame's work
  pub work64 : List Float
  pub work32 : List Float

abbrev pub memory_with : List Float → List ℕ → List ℕ → List ℕ → List Float → List Float → Memory
memory_with floats counters labels output work64 work32 = record { table = table_with floats counters labels; output = output; work64 = work64; work32 = work32 }

-- by the labels of all trackers after step 7: the retained ones with their labels in the table, zero in every place beyond them; the records of the output over the front, as the setting cap_confidence
-- has them written; and zeros in the work slices
abbrev pub memory_after : Settings → List ℕ → Stages → Memory → Memory
memory_after s all g m = record {
  table = holding g.retained (labels_retained s all g) m.table;
  output = laid (bytes_at s.cap_confidence g.frame_count g.started.trackers all) track_bytes (emitted_inds g.frame_count s.min_hits g.started.trackers) m.output;
  work64 = zeroed m.work64;
  work32 = cleared m.work32;
}

-- ---- a call

abbrev pub verdict_of : Settings → State → Boxes → Memory → Result ⊤ Refusal
verdict_of s state boxes m = verdict s state m.table boxes (length m.output) (length m.work64) (length m.work32)

-- the definition's value, and the labels of all trackers in it
abbrev pub worked : Settings → State → Boxes → Memory → Stages
worked s state boxes m = update s state boxes (tracks_in m.table state.count) (labels_in m.table state.count)

abbrev pub labels_of : State → Boxes → Memory → Stages → List ℕ
labels_of state boxes m g = labels_started boxes.labels (labels_in m.table state.count) g

-- a refused call changes nothing
unfoldable pub updated : Settings → State → Boxes → Memory → Call UpdateAnswer Memory
updated s state boxes m =
    let v : Result ⊤ Refusal = verdict_of s state boxes m in
    let g : Stages = worked s state boxes m in
    where_accepted v (call_with (accepted_answer g) (memory_after s (labels_of state boxes m g) g m)) (call_with (refused_answer v state) m)
