-- What holds after every history: each track is accounted for by its id. `occurs id l` is how often an id stands in a list.
use Rattle.std.specs.Prelude.{◌≡◌, true, List, ℕ, suc, ◌+◌, ◌≤◌, ◌<◌, length}
use Rattle.laws.specs.Tab.{tab}
use Rattle.laws.specs.Occurs.{occurs}
use Rattle.boost_tracker_verdict.specs.Sound.{sound_table}
use Rattle.boost_tracker_forget.specs.Forget.{Accepts}
use Rattle.trackbox_feed.specs.Trackbox.{Tracker}
use Rattle.boost_tracker_history.specs.History.{held, ids_dropped, Event, after, gives, retires, History, given, retired}

-- the tracker that a history has led to, the ids that it gave and those that it retired
pub record Balanced (t : Tracker) (given retired : List ℕ) : Type 0 where
  -- tracks started equal tracks held plus tracks retired
  pub many : length given ≡ length (held t) + length retired
  -- the ids given are 1, 2, .. up to the last one, in this order; so no id is given twice
  pub in_order : given ≡ tab suc t.state.last
  pub once : (id : ℕ) → occurs id given ≤ 1
  -- an id that was given is held or was retired, once and not both; and no other id is
  pub each : (id : ℕ) → occurs id (held t) + occurs id retired ≡ occurs id given
  pub held-given : (id : ℕ) → 0 < occurs id (held t) → (occurs id given ≡ 1) × (occurs id retired ≡ 0)
  pub retired-given : (id : ℕ) → 0 < occurs id retired → (occurs id given ≡ 1) × (occurs id (held t) ≡ 0)
  -- how many were started and how many are held also stands beside the table
  pub last-is : t.state.last ≡ length given
  pub count-is : t.state.count ≡ length (held t)
  -- the table is sound: the next frame on it is not turned down with 11
  pub sound : sound_table t.state t.table ≡ true

-- what each event does to that: it gives the ids after the last one, and what is held then and what it retires are what was held and what it gives
pub record Fair (t t' : Tracker) (given retired : List ℕ) : Type 0 where
  pub in_order : given ≡ tab (λ k. suc (t.state.last + k)) (length given)
  pub last-is : t'.state.last ≡ t.state.last + length given
  pub many : length (held t') + length retired ≡ length (held t) + length given
  pub each : (id : ℕ) → occurs id (held t') + occurs id retired ≡ occurs id (held t) + occurs id given
  pub count-is : t'.state.count ≡ length (held t')
  pub sound : sound_table t'.state t'.table ≡ true

-- THE THEOREM: `balanced` of proofs/Theorem.antt
abbrev pub EveryHistory : Type 0
EveryHistory = (t : Tracker) (h : History t) → Balanced t (given h) (retired h)

-- by that of events, from any tracker whose table is sound: `fair` of proofs/EventLaws.antt
abbrev pub EveryEvent : Type 0
EveryEvent = (t : Tracker) → sound_table t.state t.table ≡ true → (e : Event t) → Fair t (after e) (gives e) (retires e)

-- N11: "Dropped tracks count as retired": what an accepted drop retires are the ids that its list names, each once, as no list that names one twice is accepted. `dropped-once` there
abbrev pub EveryDrop : Type 0
EveryDrop = (t : Tracker) (named : List ℕ) → Accepts t.state t.table named → (id : ℕ) → occurs id (ids_dropped t named) ≡ occurs id named
