-- What only the contract of a private function cites: what step 8 asks for, answers and leaves.
use Rattle.std.specs.Prelude.{List, ℕ, ◌+◌, ◌≤◌, ◌<◌, ◌^◌, length, Float, Ok}
use Rattle.laws.specs.Laid.{laid}
use Rattle.records.specs.TrackRecord.{track_bytes}
use Rattle.boost_tracker_settings.specs.declared.settings.Settings.{Settings}
use Rattle.boost_tracker_verdict.specs.declared.sound.State.{State}
use Rattle.boost_tracker_table.specs.Table.{Track, young, retained, labels_where}
use Rattle.boost_tracker_table.specs.Lent.{Table, table_with, tracks_in, labels_in, holding, Call, call_with}
use Rattle.boost_tracker_emission.specs.Emission.{emitted, emitted_inds, bytes_at}
use Rattle.boost_tracker_steps.specs.declared.all_steps.Advanced.{Advanced}
use Rattle.boost_tracker.specs.declared.frame.UpdateAnswer.{UpdateAnswer}

-- for so many places and so many records of output
pub record FinishRoom (state : State) (started places records : ℕ) : Type 0 where
  pub few-held : state.count ≤ 255
  pub few-started : started ≤ 255
  pub frames-low : state.frames < 2147483647
  pub ids_fit : state.last + 255 < 2 ^ 64
  pub placed : state.count + started ≤ places
  pub recorded : state.count + started ≤ records

-- what step 8 is lent
pub record Ending : Type 0 where
  pub table : Table
  pub output : List ℕ

abbrev pub ending_with : List Float → List ℕ → List ℕ → List ℕ → Ending
ending_with floats counters labels output = record { table = table_with floats counters labels; output = output }

-- the answer for so many tracks that stay and that are put out
abbrev pub answer_of : State → Advanced → ℕ → ℕ → UpdateAnswer
answer_of state a count emitted = record { verdict = Ok tt; state = record { count = count; last = state.last + a.started; frames = state.frames + 1 }; emitted = emitted; turns = a.turns; scans = a.scans }

-- all tracks are looked at for the output, then those too old are retired, and the places behind the others cleared
unfoldable pub finished : Settings → State → Advanced → Ending → Call UpdateAnswer Ending
finished s state a m =
    let all : List Track = tracks_in m.table (state.count + a.started) in
    let labels : List ℕ = labels_in m.table (state.count + a.started) in
    let stay : List Track = retained s.max_age all in
    let put : List Track = emitted (state.frames + 1) s.min_hits all in
    call_with (answer_of state a (length stay) (length put))
    (record {
      table = holding stay (labels_where (young s.max_age) all labels) m.table;
      output = laid (bytes_at s.cap_confidence (state.frames + 1) all labels) track_bytes (emitted_inds (state.frames + 1) s.min_hits all) m.output;
    })
