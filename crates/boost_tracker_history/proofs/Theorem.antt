-- What specs/Balance.antt, specs/Calls.antt and specs/Night.antt state holds: of every history, of calls of `update` in a row, and of the frames that trackbox works. Assumes nothing.
use mathlib.Core.Path.{◌≡◌, refl, sym, ap, subst, ◌∙◌}
use mathlib.Core.Bool.{Bool, true, false, cond}
use mathlib.Core.List.{List, [], ◌∷◌, ◌++◌, foldl, append-nil}
use Prim.Native.Nat.{ℕ, suc, ◌+◌, ◌≤◌, zero-le}
use native.Mathlib.Omega.{arith}
use lib.ListN.{length, length-append}
use lib.Ieee.{Float}
use Rattle.std.specs.Bool.{⊤}
use Rattle.std.proofs.Common.{Result, Ok, Err}
use borrow.Author.Tests.{le-leb}
use Rattle.laws.specs.Tab.{tab, length-tab, tab_add}
use Rattle.laws.specs.Every.{every}
use Rattle.laws.specs.Occurs.{occurs, occurs-append, occurs-counted}
use Rattle.records.specs.declared.box_record.BoxRecord.{BoxRecord}
use Rattle.boost_tracker_settings.specs.declared.settings.Settings.{Settings}
use Rattle.boost_tracker_table.specs.Table.{placed, tracks}
use Rattle.boost_tracker_table.specs.Lent.{Table, places_of, tracks_in, call_with}
use Rattle.boost_tracker_table.specs.Lent as lent
use Rattle.boost_tracker_verdict.specs.declared.refusal.Refusal.{Refusal}
use Rattle.boost_tracker_verdict.specs.Boxes.{Boxes}
use Rattle.boost_tracker_verdict.specs.Sound.{rising, sound, sound_table}
use Rattle.boost_tracker_verdict.specs.Verdict.{where_accepted}
use Rattle.boost_tracker_definition.specs.Update.{Stages}
use Rattle.boost_tracker.specs.declared.frame.UpdateAnswer.{UpdateAnswer}
use Rattle.boost_tracker.specs.Frame.{refused_answer, accepted_answer, Memory, memory_after, labels_of, updated}
use Rattle.boost_tracker_forget.specs.declared.refusal.ForgetRefusal.{ForgetRefusal}
use Rattle.boost_tracker_forget.specs.declared.drops.Forgotten.{Forgotten}
use Rattle.boost_tracker_forget.specs.Forget as forget
use Rattle.trackbox_stream.specs.Stream.{work, refuse, Printed, printed_with, framed, happens, prints, printing}
use Rattle.trackbox_stream.specs.Stream as stream
use Rattle.trackbox_feed.specs.Trackbox.{Tracker, tracker_with, stages, begin, frame_boxes}
use Rattle.trackbox_feed.specs.Trackbox as trackbox
use Rattle.boost_tracker_history.specs.History.{fresh, Frame, answered, worked, Holds, frame, forgets, moved, held, ids_started, ids_retired, ids_dropped, History, empty, then, given, retired}
use Rattle.boost_tracker_history.specs.Balance.{Balanced, Fair, EveryHistory}
use Rattle.boost_tracker_history.specs.Calls.{lending, Calls, none, call, drop, copied, frame_of, given_by, where_dropped, retired_by, Told, CallsAreAHistory, EveryRowOfCalls}
use Rattle.boost_tracker_history.specs.Night.{Night, evening, night_then, night_on, night, EveryNight}
use Rattle.boost_tracker_history.specs.Night as nights
use Rattle.boost_tracker_history.proofs.EventLaws.{fair}

-- ---- every history

-- the rest follows from the order and the balance of each id
balance_of : {t : Tracker} {g r : List ℕ} → length g ≡ length (held t) + length r → g ≡ tab suc t.state.last → ((id : ℕ) → occurs id (held t) + occurs id r ≡ occurs id g)
    → t.state.count ≡ length (held t) → sound_table t.state t.table ≡ true → Balanced t g r
balance_of {t} {g} {r} many in_order each count-is is-sound =
    let once : (id : ℕ) → occurs id g ≤ 1 = λ id. rw in_order (occurs-counted id t.state.last) in
    record {
      many = many;
      in_order = in_order;
      once = once;
      each = each;
      held-given = λ id h. let a = each id in let b = once id in (omega arith, omega arith);
      retired-given = λ id h. let a = each id in let b = once id in (omega arith, omega arith);
      last-is = sym (ap length in_order ∙ length-tab suc t.state.last);
      count-is = count-is;
      sound = is-sound;
    }

-- a table with count 0 holds no track, whatever is in it
none-held : (table : Table) → tracks_in table 0 ≡ []
unfolding tracks tab
none-held table = let e : placed (length table.floats) (length table.counters) 0 ≡ 0 = omega arith in rw e

fresh-sound : (table : Table) → sound_table (fresh table).state table ≡ true
unfolding sound rising every
fresh-sound table = rw (none-held table, le-leb 0 (places_of table) zero-le)

fresh_balanced : (table : Table) → Balanced (fresh table) [] []
unfolding tab occurs
fresh_balanced table = balance_of (rw (none-held table)) refl (λ id. rw (none-held table)) (rw (none-held table)) (fresh-sound table)

-- an event more
balanced_on : {t t' : Tracker} {G R g r : List ℕ} → Balanced t G R → Fair t t' g r → Balanced t' (G ++ g) (R ++ r)
balanced_on {t} {t'} {G} {R} {g} {r} k w =
    balance_of
    (let a = k.many in let b = w.many in let x = length-append G g in let y = length-append R r in omega (arith, a, b, x, y))
    (rw (w.last-is, tab_add suc t.state.last (length g), ← w.in_order, ← k.in_order))
    (λ id. let a = k.each id in let b = w.each id in let x = occurs-append id G g in let y = occurs-append id R r in omega (arith, a, b, x, y))
    w.count-is
    w.sound

balance : {t : Tracker} (h : History t) → Balanced t (given h) (retired h)
unfolding given retired
balance (empty table) = fresh_balanced table
balance (then {t} h e) = let b = balance h in balanced_on b (fair t b.sound e)

pub balanced : EveryHistory
balanced t h = balance h

-- ---- calls in a row

-- a call by its verdict: an accepted one is the next frame, and one that is turned down changes nothing
module _ {t : Tracker} {G R : List ℕ} (w : Told t G R) (s : Settings) (boxes : Boxes) (out : List ℕ) (work64 work32 : List Float) where
  abbrev f : Frame
  f = record { settings = s; boxes = boxes; output = length out; work64 = length work64; work32 = length work32 }

  abbrev m : Memory
  m = lending t out work64 work32

  abbrev g : Stages
  g = worked t f

  called : {r : UpdateAnswer} {m' : Memory} (v : Result ⊤ Refusal) → answered t f ≡ v
      → call_with r m' ≡ where_accepted v (call_with (accepted_answer g) (memory_after s (labels_of t.state boxes m g) g m)) (call_with (refused_answer v t.state) m)
      → Told (tracker_with r.state m'.table) (G ++ where_accepted r.verdict (ids_started g) []) (R ++ where_accepted r.verdict (ids_retired s g) [])
  unfolding given retired
  called {r} {m'} (Ok tt) accepted ends =
      let answers : r ≡ accepted_answer g = ap (λ (k : lent.Call UpdateAnswer Memory). k.answer) ends in
      let leaves : m' ≡ memory_after s (labels_of t.state boxes m g) g m = ap (λ (k : lent.Call UpdateAnswer Memory). k.lent) ends in
      rw (answers, leaves) (record { history = then w.history (frame f accepted); given_are = rw w.given_are; retired_are = rw w.retired_are })
  called {r} {m'} (Err why) refused ends =
      let answers : r ≡ refused_answer (Err why) t.state = ap (λ (k : lent.Call UpdateAnswer Memory). k.answer) ends in
      let leaves : m' ≡ m = ap (λ (k : lent.Call UpdateAnswer Memory). k.lent) ends in
      rw (answers, leaves, append-nil G, append-nil R) w

-- a drop by its verdict
module _ {t : Tracker} {G R : List ℕ} (w : Told t G R) (named : List ℕ) where
  forgot : {r : Forgotten} {table : Table} (v : Result ⊤ ForgetRefusal) → forget.verdict t.state t.table named ≡ v → call_with r table ≡ forget.ends v t.state t.table named
      → Told (tracker_with r.state table) G (R ++ where_dropped r.verdict (ids_dropped t named))
  unfolding given retired
  forgot {r} {table} (Ok tt) accepted ends =
      let answers = ap (λ (k : lent.Call Forgotten Table). k.answer) ends in
      let leaves = ap (λ (k : lent.Call Forgotten Table). k.lent) ends in
      rw (answers, leaves)
      (record { history = then w.history (forgets named accepted); given_are = append-nil (given w.history) ∙ w.given_are; retired_are = rw w.retired_are })
  forgot {r} {table} (Err why) refused ends =
      let answers = ap (λ (k : lent.Call Forgotten Table). k.answer) ends in
      let leaves = ap (λ (k : lent.Call Forgotten Table). k.lent) ends in
      rw (answers, leaves, append-nil R) w

moved_on : {t : Tracker} {G R : List ℕ} → Told t G R → (table : Table) (h : Holds t table) → Told (tracker_with t.state table) G R
unfolding given retired
moved_on w table h =
    record { history = then w.history (moved table h); given_are = append-nil (given w.history) ∙ w.given_are; retired_are = append-nil (retired w.history) ∙ w.retired_are }

row_told : {t : Tracker} (cs : Calls t) → Told t (given_by cs) (retired_by cs)
unfolding given retired given_by retired_by updated forget.forgotten
row_told (none table) = record { history = empty table; given_are = refl; retired_are = refl }
row_told (call {t} cs c) = called (row_told cs) c.settings c.boxes c.output c.work64 c.work32 (answered t (frame_of c)) refl c.ends
row_told (drop {t} cs c) = forgot (row_told cs) c.named (forget.verdict t.state t.table c.named) refl c.ends
row_told (copied cs table h) = moved_on (row_told cs) table h

pub calls_told : CallsAreAHistory
calls_told t cs = row_told cs

pub calls_balanced : EveryRowOfCalls
calls_balanced t cs = let w = row_told cs in rw (w.given_are, w.retired_are) at (balance w.history)

-- ---- the frames that trackbox works

-- what is printed, for the tracker and the state of a night
abbrev beside : List ℕ → Night → Printed Tracker
beside text n = printed_with text n.going n.tracker

frame_beside : (n : Night) (text : List ℕ) (nth : ℕ) (bs : List BoxRecord) (v : Result ⊤ Refusal) (e : answered n.tracker (nights.frame_of bs) ≡ v)
    → framed (beside text n) nth (trackbox.frame_then v n.tracker (trackbox.labels_of n.tracker (frame_boxes bs) (stages n.tracker (frame_boxes bs))) (stages n.tracker (frame_boxes bs)))
    ≡ beside (framed (beside text n) nth (trackbox.frame_then v n.tracker (trackbox.labels_of n.tracker (frame_boxes bs) (stages n.tracker (frame_boxes bs))) (stages n.tracker (frame_boxes bs)))).text (nights.frame_then n bs v e)
frame_beside n text nth bs (Ok tt) e = refl
frame_beside n text nth bs (Err why) e = refl

event_beside : (n : Night) (text : List ℕ) (e : stream.Event) → happens trackbox.updated (beside text n) e ≡ beside (happens trackbox.updated (beside text n) e).text (night_then n e)
unfolding trackbox.frame
event_beside n text (work f bs nth) = frame_beside n text nth bs (answered n.tracker (nights.frame_of bs)) refl
event_beside n text (refuse number nth) = refl

goes_beside : (b : Bool) (n n' : Night) (text : List ℕ) (p : Printed Tracker) → p ≡ beside p.text n' → cond b p (beside text n) ≡ beside (cond b p (beside text n)).text (cond b n' n)
goes_beside true n n' text p e = e
goes_beside false n n' text p e = refl

prints_beside : (n : Night) (text : List ℕ) (e : stream.Event) → prints trackbox.updated (beside text n) e ≡ beside (prints trackbox.updated (beside text n) e).text (night_on n e)
unfolding prints night_on
prints_beside n text e = goes_beside n.going n (night_then n e) text (happens trackbox.updated (beside text n) e) (event_beside n text e)

nights_beside : (es : List stream.Event) (n : Night) (text : List ℕ) → foldl (prints trackbox.updated) (beside text n) es ≡ beside (foldl (prints trackbox.updated) (beside text n) es).text (foldl night_on n es)
nights_beside [] n text = refl
nights_beside (e ∷ es) n text =
    subst (λ (p : Printed Tracker). foldl (prints trackbox.updated) p es ≡ beside (foldl (prints trackbox.updated) p es).text (foldl night_on (night_on n e) es))
    (sym (prints_beside n text e)) (nights_beside es (night_on n e) (prints trackbox.updated (beside text n) e).text)

pub every-night : EveryNight
unfolding night printing
every-night es =
    let same = nights_beside es evening [] in
    let tracked : (night es).tracker ≡ (printing trackbox.updated begin es).state = sym (ap (λ (p : Printed Tracker). p.state) same) in
    let h : History (night es).tracker = (night es).history in
    record {
      tracker-is = tracked;
      going-is = sym (ap (λ (p : Printed Tracker). p.going) same);
      balance = subst (λ (t : Tracker). Balanced t (given h) (retired h)) tracked (balance h);
    }
