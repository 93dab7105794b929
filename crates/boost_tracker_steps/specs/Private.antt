-- What only the contracts between private functions cite: steps 6 and 7 after the pairs are found, and how a call goes on from what `prepare` left.
use Rattle.std.specs.Prelude.{◌≡◌, true, List, map, ℕ, length, Float, Result, Ok, Err}
use Rattle.laws.specs.Laid.{laid}
use Rattle.strack.specs.Strack.{predict}
use Rattle.refusals.specs.declared.refusal.Refusal.{Refusal as StageRefusal}
use Rattle.assoc_assignment.specs.declared.assignment.AssignmentCounts.{AssignmentCounts}
use Rattle.boost_tracker_settings.specs.declared.settings.Settings.{Settings}
use Rattle.boost_tracker_table.specs.Table.{place_floats, place_counters, floats_of, counters_of}
use Rattle.boost_tracker_table.specs.Lent.{Table, table_with, tracks_in, Call, call_with}
use Rattle.boost_tracker_verdict.specs.declared.refusal.Refusal.{Refusal}
use Rattle.boost_tracker_verdict.specs.declared.refusal.Refusal.TheVariants.{WorkShort}
use Rattle.boost_tracker_verdict.specs.declared.sound.State.{State}
use Rattle.boost_tracker_verdict.specs.Boxes.{Boxes}
use Rattle.boost_tracker_follow.specs.Corrections.{followed}
use Rattle.boost_tracker_pairs.specs.declared.pairing.Prepared.{Prepared}
use Rattle.boost_tracker_pairs.specs.Pairs.{Inputs, roomy_for, PrepareCall}
use Rattle.boost_tracker_steps.specs.declared.all_steps.Advanced.{Advanced}
use Rattle.boost_tracker_steps.specs.AllSteps.{Lent, advanced}

-- ---- steps 6 and 7

abbrev pub answered : Result AssignmentCounts StageRefusal → Result Advanced Refusal
answered (Ok q) = Ok (record { started = q.detections; turns = q.turns; scans = q.scans })
answered (Err why) = Err WorkShort

abbrev pub predicted_floats : Table → ℕ → List Float
predicted_floats t held = laid floats_of place_floats (map predict (tracks_in t held)) t.floats

abbrev pub predicted_counters : Table → ℕ → List ℕ
predicted_counters t held = laid counters_of place_counters (map predict (tracks_in t held)) t.counters

-- the pairs followed in the predicted table; none found, and it is as it was
abbrev pub settled : State → List Float → List ℕ → List ℕ → List ℕ → List ℕ → Table → Result AssignmentCounts StageRefusal → Call (Result Advanced Refusal) Table
settled state corners labels pair_boxes pair_tracks unmatched t (Ok counts) =
    let call : Call (Result AssignmentCounts StageRefusal) Table =
    followed state.count state.last corners labels counts pair_boxes pair_tracks unmatched (table_with (predicted_floats t state.count) (predicted_counters t state.count) t.labels) in
    call_with (answered call.answer) call.lent
settled state corners labels pair_boxes pair_tracks unmatched t (Err why) = call_with (answered (Err why)) t

-- ---- steps 5 to 7

-- whatever frame `prepare` left this of, the call ends as that frame's
pub record Concluded (s : Settings) (state : State) (p : Prepared) (l : Inputs) (before : Lent) (r : Result Advanced Refusal) (after : Lent) : Type 0 where
  pub ends : (boxes : Boxes) (room : ℕ) (l₀ : Inputs) (work32 : List Float) → roomy_for l₀ ≡ true → length before.work32 ≡ length work32
      → PrepareCall s state boxes before.table room (length before.work64) 0 l₀ work32 (Ok p) l before.work32
      → call_with r after ≡ advanced s state boxes room (record { table = before.table; work64 = before.work64; work32 = work32 })
