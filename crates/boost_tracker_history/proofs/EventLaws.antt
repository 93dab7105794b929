-- `fair`: the balance of one event. An accepted frame has the facts of boost_tracker_definition, and its tracks before retirement are those held and those started; an accepted drop has those of boost_tracker_forget.
-- `dropped-once`: what an accepted drop retires. Assumes nothing.
use mathlib.Core.Path.{◌≡◌, refl, sym, ap, ◌∙◌}
use mathlib.Core.Bool.{Bool, true, not}
use mathlib.Core.List.{List, [], ◌++◌, map-append}
use Prim.Native.Nat.{ℕ, suc, ◌+◌, ◌<◌}
use native.Mathlib.Nat.{add-zero}
use native.Mathlib.Omega.{arith}
use lib.ListN.{length, length-append, length-map, length-drop, take, drop, take-append-drop, get_or-map}
use lib.Seq.{ext_get_or, get_or-drop, get_or-take, length-take-le}
use lib.Dec.{leb}
use borrow.Author.Tests.{le-leb}
use Rattle.std.proofs.Common.{Ok}
use Rattle.laws.specs.Tests.{and_right}
use Rattle.laws.specs.Tab.{tab, length-tab, tab_of}
use Rattle.laws.specs.Sieve.{sieve, sieve_both}
use Rattle.laws.specs.Occurs.{occurs, occurs-append, occurs_both}
use Rattle.boost_tracker_table.specs.Table.{Track, ids_of, blank, young, retained, unlisted}
use Rattle.boost_tracker_table.specs.Lent.{Table, places_of}
use Rattle.boost_tracker_table.proofs.Laws.{tracks-many}
use Rattle.boost_tracker_verdict.specs.Sound.{sound, sound_table}
use Rattle.boost_tracker_verdict.proofs.SoundLaws.{sound-placed}
use Rattle.boost_tracker_definition.specs.Update.{Stages}
use Rattle.boost_tracker_definition.specs.Facts.{FrameFacts}
use Rattle.boost_tracker_definition.proofs.FactLaws.{frame_facts, retained-is}
use Rattle.boost_tracker_forget.specs.Forget.{Accepts}
use Rattle.boost_tracker_forget.specs.Laws.{Dropped}
use Rattle.boost_tracker_forget.proofs.Theorem.{every_drop}
use Rattle.trackbox_feed.specs.Trackbox.{Tracker, tracker_with}
use Rattle.boost_tracker_history.specs.History.{tracks_of, labels_of, Frame, answered, worked, leaves, dropping, Holds, frame, forgets, moved, held, ids_started, ids_retired, ids_dropped}
use Rattle.boost_tracker_history.specs.Balance.{Fair, EveryEvent, EveryDrop}

-- ---- a frame

module _ (t : Tracker) (f : Frame) (accepted : answered t f ≡ Ok tt) where
  abbrev g : Stages
  g = worked t f

  abbrev next : Tracker
  next = leaves t f

  -- all tracks before retirement
  abbrev all : List Track
  all = g.started.trackers

  abbrev old : ℕ
  old = length (tracks_of t)

  abbrev new : ℕ
  new = length g.result.unmatched_detections

  facts : FrameFacts f.settings t.state f.boxes (tracks_of t) (labels_of t) g next.table
  facts = frame_facts f.settings t.state t.table f.boxes f.output f.work64 f.work32 accepted

  -- those in front keep the ids that are held
  front_are : ids_of (take old all) ≡ held t
  front_are =
      let size = facts.many in
      let front : length (take old all) ≡ old = length-take-le old all (omega arith) in
      let same : length (ids_of (take old all)) ≡ old = length-map (take old all) (λ (t : Track). t.id) ∙ front in
      ext_get_or 0 (ids_of (take old all)) (held t) (same ∙ sym (length-map (tracks_of t) (λ (t : Track). t.id)))
      (λ i h. let b : i < old = rw same at h in
      get_or-map (λ (t : Track). t.id) (take old all) i blank ∙ ap (λ (t : Track). t.id) (get_or-take old all i blank b) ∙ facts.old_ids i b
      ∙ sym (get_or-map (λ (t : Track). t.id) (tracks_of t) i blank))

  -- those behind have the next ones
  behind_are : ids_of (drop old all) ≡ tab (λ k. suc (t.state.last + k)) new
  behind_are =
      let size = facts.many in
      let back : length (drop old all) ≡ new = length-drop old all ∙ omega arith in
      tab_of (λ k. suc (t.state.last + k)) (ids_of (drop old all)) new 0 (length-map (drop old all) (λ (t : Track). t.id) ∙ back)
      (λ i h. get_or-map (λ (t : Track). t.id) (drop old all) i blank ∙ ap (λ (t : Track). t.id) (get_or-drop old all i blank) ∙ facts.new-ids i h ∙ omega arith)

  started_are : ids_started g ≡ ids_of (drop old all)
  started_are = rw facts.matched-many

  all_are : ids_of all ≡ held t ++ ids_started g
  all_are = ap ids_of (sym (take-append-drop old all)) ∙ map-append (λ (t : Track). t.id) (take old all) (drop old all) ∙ rw (front_are, started_are)

  -- what is held then
  kept_are : held next ≡ ids_of (retained f.settings.max_age all)
  kept_are = ap ids_of (facts.holds ∙ retained-is f.settings t.state f.boxes (tracks_of t) (labels_of t))

  frame_fair : Fair t next (ids_started g) (ids_retired f.settings g)
  frame_fair =
      let stay : Track → Bool = young f.settings.max_age in
      let id : Track → ℕ = λ t. t.id in
      let size : length (ids_started g) ≡ new = ap length (started_are ∙ behind_are) ∙ length-tab _ new in
      record {
        in_order = rw size (started_are ∙ behind_are);
        last-is = rw size facts.last_id;
        many = rw (kept_are, length-map (sieve stay all) id, length-map (sieve (λ t. not (stay t)) all) id)
            (sieve_both stay all ∙ sym (length-map all id) ∙ ap length all_are ∙ length-append (held t) (ids_started g));
        each = λ b. rw kept_are (occurs_both id stay all b ∙ ap (occurs b) all_are ∙ occurs-append b (held t) (ids_started g));
        count-is = sym (length-map (tracks_of next) id ∙ ap length facts.holds);
        sound = facts.sound;
      }

-- ---- a table of another size

module _ (t : Tracker) (is-sound : sound_table t.state t.table ≡ true) (table : Table) (h : Holds t table) where
  abbrev there : Tracker
  there = tracker_with t.state table

  sound_there : sound_table t.state table ≡ true
  unfolding sound
  sound_there = rw (h.tracks, le-leb t.state.count (places_of table) h.room) (and_right (leb t.state.count (places_of t.table)) _ is-sound)

  moved_fair : Fair t there [] []
  unfolding tab
  moved_fair =
      let room = h.room in
      let many : length (tracks_of there) ≡ t.state.count = tracks-many table.floats table.counters t.state.count (omega arith) in
      record {
        in_order = refl;
        last-is = omega arith;
        many = rw h.tracks;
        each = λ id. rw h.tracks;
        count-is = sym (length-map (tracks_of there) (λ (t : Track). t.id) ∙ many);
        sound = sound_there;
      }

-- ---- a drop

module _ (t : Tracker) (named : List ℕ) (accepted : Accepts t.state t.table named) where
  abbrev later : Tracker
  later = dropping t named

  left : Dropped t.state t.table named later.state later.table
  left = every_drop t.state t.table named accepted

  -- the ids that stay and those that go are those that were held
  both_are : (b : ℕ) → occurs b (held later) + occurs b (ids_dropped t named) ≡ occurs b (held t)
  both_are b = rw left.tracks_are (occurs_both (λ (t : Track). t.id) (unlisted named) (tracks_of t) b)

  drop_fair : Fair t later [] (ids_dropped t named)
  unfolding tab occurs
  drop_fair =
      let id : Track → ℕ = λ t. t.id in
      let stay : Track → Bool = unlisted named in
      let ts : List Track = tracks_of t in
      let both = sieve_both stay ts in
      let All-ids = length-map ts id in
      let left-ids = length-map (sieve stay ts) id in
      let gone-ids = length-map (sieve (λ x. not (stay x)) ts) id in
      let last = left.last-is in
      let room = sound-placed (places_of later.table) later.state (tracks_of later) left.sound in
      let many : length (tracks_of later) ≡ later.state.count = tracks-many later.table.floats later.table.counters later.state.count (omega (arith, room)) in
      record {
        in_order = refl;
        last-is = omega (arith, last);
        many = rw left.tracks_are (omega (arith, both, All-ids, left-ids, gone-ids));
        each = λ b. both_are b ∙ sym (add-zero (occurs b (held t)));
        count-is = sym (length-map (tracks_of later) id ∙ many);
        sound = left.sound;
      }

pub dropped-once : EveryDrop
dropped-once t named accepted id = let both = both_are t named accepted id in let each = (left t named accepted).each id in omega (arith, both, each)

pub fair : EveryEvent
fair t is-sound (frame f accepted) = frame_fair t f accepted
fair t is-sound (forgets named accepted) = drop_fair t named accepted
fair t is-sound (moved table holds) = moved_fair t is-sound table holds
