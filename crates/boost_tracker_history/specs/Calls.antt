-- Calls of `update` and of `forget_set` in a row, from an empty table: each is given the state and the table that the one before left, and ends as its contract says, accepted or turned down. `forget` is the set of one.
-- Settings, boxes, labels and what else is lent may be others at each call. The contract of bedside_update, for C, cites the same `updated`.
use Rattle.std.specs.Prelude.{◌≡◌, List, [], ◌++◌, ℕ, length, Float, ⊤, Result, Ok, Err}
use Rattle.boost_tracker_settings.specs.declared.settings.Settings.{Settings}
use Rattle.boost_tracker_table.specs.Lent.{Table, call_with}
use Rattle.boost_tracker_verdict.specs.Boxes.{Boxes}
use Rattle.boost_tracker_verdict.specs.Verdict.{where_accepted}
use Rattle.boost_tracker.specs.declared.frame.UpdateAnswer.{UpdateAnswer}
use Rattle.boost_tracker.specs.Frame.{Memory, updated}
use Rattle.boost_tracker_forget.specs.declared.refusal.ForgetRefusal.{ForgetRefusal}
use Rattle.boost_tracker_forget.specs.declared.drops.Forgotten.{Forgotten}
use Rattle.boost_tracker_forget.specs.Forget.{forgotten}
use Rattle.trackbox_feed.specs.Trackbox.{Tracker, tracker_with}
use Rattle.boost_tracker_history.specs.History.{fresh, Frame, worked, Holds, ids_started, ids_retired, ids_dropped, History, given, retired}
use Rattle.boost_tracker_history.specs.Balance.{Balanced}

-- the table, and what is lent beside it for the output and for the work
abbrev pub lending : Tracker → List ℕ → List Float → List Float → Memory
lending t output work64 work32 = record { table = t.table; output = output; work64 = work64; work32 = work32 }

pub record UpdateCall (t : Tracker) : Type 0 where
  pub settings : Settings
  pub boxes : Boxes
  pub output : List ℕ
  pub work64 : List Float
  pub work32 : List Float
  -- what it answers, and the memory that it leaves
  pub answer : UpdateAnswer
  pub memory : Memory
  pub ends : call_with answer memory ≡ updated settings t.state boxes (lending t output work64 work32)

abbrev pub left : {t : Tracker} → UpdateCall t → Tracker
left c = tracker_with c.answer.state c.memory.table

pub record ForgetCall (t : Tracker) : Type 0 where
  pub named : List ℕ
  -- what it answers, and the table that it leaves
  pub answer : Forgotten
  pub table : Table
  pub ends : call_with answer table ≡ forgotten t.state t.table named

pub data Calls : Tracker → Type 0 where
  none : (table : Table) → Calls (fresh table)
  call : {t : Tracker} → Calls t → (c : UpdateCall t) → Calls (left c)
  drop : {t : Tracker} → Calls t → (c : ForgetCall t) → Calls (tracker_with c.answer.state c.table)
  -- between two calls the table may be lent in another size
  copied : {t : Tracker} → Calls t → (table : Table) → Holds t table → Calls (tracker_with t.state table)

-- ---- the ids that accepted calls give and retire

abbrev pub frame_of : {t : Tracker} → UpdateCall t → Frame
frame_of c = record { settings = c.settings; boxes = c.boxes; output = length c.output; work64 = length c.work64; work32 = length c.work32 }

unfoldable pub given_by : {t : Tracker} → Calls t → List ℕ
given_by (none table) = []
given_by (call {t} cs c) = given_by cs ++ where_accepted c.answer.verdict (ids_started (worked t (frame_of c))) []
given_by (drop cs c) = given_by cs
given_by (copied cs table holds) = given_by cs

-- what an accepted drop retires
abbrev pub where_dropped : Result ⊤ ForgetRefusal → List ℕ → List ℕ
where_dropped (Ok _) ids = ids
where_dropped (Err why) ids = []

unfoldable pub retired_by : {t : Tracker} → Calls t → List ℕ
retired_by (none table) = []
retired_by (call {t} cs c) = retired_by cs ++ where_accepted c.answer.verdict (ids_retired c.settings (worked t (frame_of c))) []
retired_by (drop {t} cs c) = retired_by cs ++ where_dropped c.answer.verdict (ids_dropped t c.named)
retired_by (copied cs table holds) = retired_by cs

-- ---- THE THEOREMS

-- a history to a tracker, that gave and retired these ids
pub record Told (t : Tracker) (gave gone : List ℕ) : Type 0 where
  pub history : History t
  pub given_are : given history ≡ gave
  pub retired_are : retired history ≡ gone

-- calls in a row are a history, of which those that are turned down are no part: `calls_told` of proofs/Theorem.antt
abbrev pub CallsAreAHistory : Type 0
CallsAreAHistory = (t : Tracker) (cs : Calls t) → Told t (given_by cs) (retired_by cs)

-- so that what holds of histories holds of them: `calls_balanced` there
abbrev pub EveryRowOfCalls : Type 0
EveryRowOfCalls = (t : Tracker) (cs : Calls t) → Balanced t (given_by cs) (retired_by cs)
