-- Document 02, N7: "Over any sequence of accepted frames from an empty table, tracks started equal tracks held plus tracks retired, both counted from the history of frames, and no id is given twice." N11: "Dropped tracks count as retired in N7's balance."
-- A history is such a sequence: an empty table, and events one after the other, each on the tracker that the one before left. Each event has the ids that it gives and the ids that it retires.
use Rattle.std.specs.Prelude.{◌≡◌, not, List, [], ◌++◌, ℕ, ◌≤◌, length, drop, ⊤, Result, Ok}
use Rattle.laws.specs.Sieve.{sieve}
use Rattle.boost_tracker_settings.specs.declared.settings.Settings.{Settings}
use Rattle.boost_tracker_table.specs.Table.{Track, ids_of, young, unlisted}
use Rattle.boost_tracker_table.specs.Lent.{Table, places_of, tracks_in, labels_in, holding}
use Rattle.boost_tracker_verdict.specs.declared.refusal.Refusal.{Refusal}
use Rattle.boost_tracker_verdict.specs.Boxes.{Boxes}
use Rattle.boost_tracker_verdict.specs.Verdict.{verdict}
use Rattle.boost_tracker_definition.specs.Update.{Stages, update, state_after, labels_started, labels_retained}
use Rattle.boost_tracker_forget.specs.Forget.{Accepts, dropped}
use Rattle.trackbox_feed.specs.Trackbox.{Tracker, tracker_with}

-- ---- a tracker between two events: the lent table, and the state beside it

-- no track held, none ever started, no frame worked; the lent table may hold anything
abbrev pub fresh : Table → Tracker
fresh table = tracker_with (record { count = 0; last = 0; frames = 0 }) table

abbrev pub tracks_of : Tracker → List Track
tracks_of t = tracks_in t.table t.state.count

abbrev pub labels_of : Tracker → List ℕ
labels_of t = labels_in t.table t.state.count

-- ---- a frame: its settings and boxes, and how much is lent for its output and its work

pub record Frame : Type 0 where
  pub settings : Settings
  pub boxes : Boxes
  pub output : ℕ
  pub work64 : ℕ
  pub work32 : ℕ

abbrev pub answered : Tracker → Frame → Result ⊤ Refusal
answered t f = verdict f.settings t.state t.table f.boxes f.output f.work64 f.work32

-- its stages by the definition, and what it leaves where it is accepted
abbrev pub worked : Tracker → Frame → Stages
worked t f = update f.settings t.state f.boxes (tracks_of t) (labels_of t)

abbrev pub leaves : Tracker → Frame → Tracker
leaves t f =
    let g : Stages = worked t f in
    tracker_with (state_after g) (holding g.retained (labels_retained f.settings (labels_started f.boxes.labels (labels_of t) g) g) t.table)

-- ---- a drop of the tracks that a list names, document 02, N11, and what it leaves where it is accepted

abbrev pub dropping : Tracker → List ℕ → Tracker
dropping t named = tracker_with (dropped t.state t.table named).answer (dropped t.state t.table named).lent

-- ---- events

-- a table, of any size, that has the tracker's tracks and labels in its front
pub record Holds (t : Tracker) (table : Table) : Type 0 where
  pub room : t.state.count ≤ places_of table
  pub tracks : tracks_in table t.state.count ≡ tracks_of t
  pub labels : labels_in table t.state.count ≡ labels_of t

pub data Event (t : Tracker) : Type 0 where
  -- a frame that is accepted
  frame : (f : Frame) → answered t f ≡ Ok tt → Event t
  -- a drop that is accepted
  forgets : (named : List ℕ) → Accepts t.state t.table named → Event t
  -- the table is lent in another size: what it holds was copied
  moved : (table : Table) → Holds t table → Event t

abbrev pub after : {t : Tracker} → Event t → Tracker
after {t} (frame f accepted) = leaves t f
after {t} (forgets named accepted) = dropping t named
after {t} (moved table holds) = tracker_with t.state table

-- ---- ids

-- those of the tracks that a tracker holds
abbrev pub held : Tracker → List ℕ
held t = ids_of (tracks_of t)

-- step 7 puts the tracks that it starts behind those that step 6 leaves
abbrev pub ids_started : Stages → List ℕ
ids_started g = ids_of (drop (length g.matched) g.started.trackers)

-- step 8 retains of all these the ones whose time since update is at most max_age, and the others are retired
abbrev pub ids_retired : Settings → Stages → List ℕ
ids_retired s g = ids_of (sieve (λ t. not (young s.max_age t)) g.started.trackers)

-- N11: "Dropped tracks count as retired": those that the list names, in the table's order
abbrev pub ids_dropped : Tracker → List ℕ → List ℕ
ids_dropped t named = ids_of (sieve (λ x. not (unlisted named x)) (tracks_of t))

abbrev pub gives : {t : Tracker} → Event t → List ℕ
gives {t} (frame f accepted) = ids_started (worked t f)
gives {t} (forgets named accepted) = []
gives {t} (moved table holds) = []

abbrev pub retires : {t : Tracker} → Event t → List ℕ
retires {t} (frame f accepted) = ids_retired f.settings (worked t f)
retires {t} (forgets named accepted) = ids_dropped t named
retires {t} (moved table holds) = []

-- ---- a history that has led to a tracker

pub data History : Tracker → Type 0 where
  empty : (table : Table) → History (fresh table)
  then : {t : Tracker} → History t → (e : Event t) → History (after e)

-- over all its events, in their order
unfoldable pub given : {t : Tracker} → History t → List ℕ
given (empty table) = []
given (then h e) = given h ++ gives e

unfoldable pub retired : {t : Tracker} → History t → List ℕ
retired (empty table) = []
retired (then h e) = retired h ++ retires e
