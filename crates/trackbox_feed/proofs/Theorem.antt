-- `printed-is`: what specs/Laws.antt states holds. Holds is what lies in lent memory between two calls; each call tells what the definition does with its record (`one-call`, `last-call`).
-- Texts and Ahead are steps of the proof. Assumes nothing.
use mathlib.Core.Path.{◌≡◌, refl, sym, ap, subst, ◌∙◌}
use mathlib.Core.Bool.{Bool, true, false, cond}
use mathlib.Core.List.{List, [], ◌∷◌, ◌++◌, append_assoc, append-nil}
use Prim.Native.Nat.{ℕ, zero, suc, ◌+◌, ◌-◌, ◌*◌, ◌/◌, ◌%◌, ◌≤◌, ◌<◌, min, max}
use native.Mathlib.Nat.{lt_of_not-le, mul-le-mul}
use native.Mathlib.Decide.{dec_le}
use native.Mathlib.Omega.{arith}
use lib.Dec.{eqb, ltb}
use lib.ListN.{length, take, length-append, length-map}
use lib.Ieee.{Float}
use borrow.Author.Tests.{lt-ltb, le-ltb}
use Rattle.laws.specs.Splice.{splice}
use Rattle.laws.specs.Laid.{rows, laid, laid_none, length-rows, length-laid}
use Rattle.laws.specs.Over.{over, over_none, length_over}
use Rattle.records.specs.declared.box_record.BoxRecord.{BoxRecord}
use Rattle.records.specs.declared.track_record.TrackRecord.{TrackRecord}
use Rattle.records.specs.BoxRecord.{box_bytes, box_values}
use Rattle.records_line.specs.Line.{line, line_bytes, refused_line}
use Rattle.records.specs.TrackRecord.{track_bytes}
use Rattle.records.proofs.Laws.{text-written}
use Rattle.boost_tracker_verdict.specs.declared.sound.State.{State}
use Rattle.boost_tracker_verdict.specs.declared.refusal.Refusal.{Refusal}
use Rattle.std.specs.Bool.{⊤}
use Rattle.std.proofs.Common.{Result, Ok, Err}
use Rattle.boost_tracker_verdict.specs.Boxes.{Boxes, boxes_with}
use Rattle.boost_tracker_verdict.specs.Verdict.{number, boxes_in, of_room, verdict}
use Rattle.boost_tracker_definition.specs.Update.{Stages, state_after}
use Rattle.boost_tracker.specs.Frame as Answers
use Rattle.boost_tracker_table.specs.Lent.{table_with}
use Rattle.trackbox_stream.specs.declared.rules.OpenFrame.{OpenFrame}
use Rattle.trackbox_stream.specs.declared.rules.Refusal.TheVariants.{RecordIncomplete}
use Rattle.trackbox_stream.specs.declared.rules.Fault.{Fault}
use Rattle.trackbox_stream.specs.declared.rules.Next.{Next}
use Rattle.trackbox_stream.specs.Rules.{fault, nth_after, judged, closed, opened, grown}
use Rattle.trackbox_stream.specs.Rules as rules
use Rattle.trackbox_stream.specs.Boxes.{box_floats, frame_floats, frame_labels}
use Rattle.trackbox_stream.specs.Stream.{Event, work, refuse, refused, accepted, box_records, printing}
use Rattle.trackbox_stream.specs.Feeding.{open_work, empty_work, told, told_at_end, state_then, goes_on}
use Rattle.trackbox_stream.specs.Feeding as feeding
use Rattle.trackbox_stream.proofs.Theorem.{trackbox-fed}
use Rattle.trackbox_stream.proofs.Cases.{Judges, back, far, later, full, same, judges}
use Rattle.trackbox_stream.proofs.Held.{held_first, held_more, held-front, label_first, label_more, label_front}
use Rattle.trackbox_feed.specs.declared.feed.Feed.{Feed}
use Rattle.trackbox_feed.specs.Trackbox.{settings, lent_boxes, lent_box_labels, lent_output, lent_doubles, lent_singles, Tracker, tracker_with, stages, labels_of, records_of, frame_then, frame, begin, frame_boxes, updated, trackbox}
use Rattle.trackbox_feed.specs.Feed.{Lent, lent_with, has_room, Work, done, work_with, work_by, verdict_of, feed_with, start, Call, call_with, stored_then, front, work_front, work_open, again_then, later_then, boxes_then, last_then, refuses, later_call, next_then, end_then, call_then, taken, finished}
use Rattle.trackbox_feed.specs.Feed as calls
use Rattle.trackbox_feed.specs.Laws.{Memory, Scratch, square, Serves, Sized, lent_of, memory_of, Follows, SaidOf, Prints, memory, PrintedIs}
use Rattle.trackbox_feed.proofs.Texts.{text_of, text-refuse, text_stops, text-goes, text-none, empties, text-empties, text-one-empty, text-no-empty}
use Rattle.trackbox_feed.proofs.Ahead.{ahead, all-ahead}
use Rattle.trackbox_feed.proofs.CallLaws.{both}

-- ---- a frame of the code is one of the definition

abbrev tracker_of : State → Memory → Tracker
tracker_of state m = tracker_with state (table_with m.floats m.counters m.labels)

data Frames (t : Tracker) (bs : List BoxRecord) (nth : ℕ) (text : List ℕ) (w : Work) : Type 0 where
  goes : (t' : Tracker) (rs : List TrackRecord) (o : List ℕ) (d s : List Float) → updated t bs ≡ accepted t' rs
      → w ≡ work_with (done t'.state (length (rows line rs))) (lent_with t'.table.floats t'.table.counters t'.table.labels o d s (splice text 0 (rows line rs))) → Frames t bs nth text w
  stops : (n : ℕ) (l : Lent) → updated t bs ≡ refused n → w ≡ work_with (Err (length (refused_line n nth))) l → l.text ≡ splice text 0 (refused_line n nth) → Frames t bs nth text w

module _ (t : Tracker) (bs : List BoxRecord) (nth : ℕ) (o : List ℕ) (d s : List Float) (text : List ℕ) where
  abbrev staged : Stages
  staged = stages t (frame_boxes bs)

  abbrev labelled : List ℕ
  labelled = labels_of t (frame_boxes bs) staged

  by_verdict : (v : Result ⊤ Refusal) → updated t bs ≡ frame_then v t labelled staged
      → Frames t bs nth text (work_by v nth labelled staged (lent_with t.table.floats t.table.counters t.table.labels o d s text))
  by_verdict (Ok tt) u =
      let after : Answers.Memory = Answers.memory_after settings labelled staged (Answers.memory_with t.table.floats t.table.counters t.table.labels o d s) in
      goes (tracker_with (state_after staged) after.table) (records_of labelled staged) after.output after.work64 after.work32 u refl
  by_verdict (Err why) u = stops (number why) (lent_with t.table.floats t.table.counters t.table.labels o d s (splice text 0 (refused_line (number why) nth))) u refl refl

-- a test whether n are enough says the same of `most`
serves_as : (need less most n : ℕ) → Serves need most n → less ≤ need → ltb n less ≡ ltb most less
serves_as need less most n v h = by_enough (dec_le less n)
  where
    by_enough : Dec (less ≤ n) → ltb n less ≡ ltb most less
    by_enough (yes e) = le-ltb n less e ∙ sym (le-ltb most less (omega (arith, e, v.bound)))
    by_enough (no e) = let l : n < less = lt_of_not-le e in lt-ltb n less l ∙ sym (lt-ltb most less (omega (arith, l, h, v.enough)))

square_up : (a b k : ℕ) → k ≤ b → square a k ≤ square a b
square_up a b k h = let l : max a k ≤ max a b = omega (arith, h) in mul-le-mul l l

-- the verdict of a frame of no more boxes than the open one is that with all that trackbox lends
verdict-whole : (feed : Feed) (m : Memory) (s : Scratch) → Sized feed s → (objects : Boxes) → boxes_in objects.values ≤ feed.opened.boxes
    → verdict_of feed.table objects (lent_of m s) ≡ verdict settings feed.table (table_with m.floats m.counters m.labels) objects lent_output lent_doubles lent_singles
unfolding verdict of_room
verdict-whole feed m s z objects h =
    let held : ℕ = feed.table.count in
    let up = square_up held feed.opened.boxes (boxes_in objects.values) h in
    let d = serves_as (square held feed.opened.boxes) (square held (boxes_in objects.values)) lent_doubles (length s.doubles) z.doubles up in
    let f = serves_as (4 * square held feed.opened.boxes) (4 * square held (boxes_in objects.values)) lent_singles (length s.singles) z.singles (omega (arith, up)) in
    rw (z.output, d, f)

five : (r : BoxRecord) → length (box_floats r) ≡ box_values
five r = refl

boxes-many : (bs : List BoxRecord) → boxes_in (frame_floats bs) ≡ length bs
boxes-many bs = let n = length-rows box_floats box_values five bs in omega (arith, n)

frames_view : (feed : Feed) (m : Memory) (s : Scratch) → Sized feed s → (bs : List BoxRecord) (nth : ℕ) → length bs ≤ feed.opened.boxes
    → Frames (tracker_of feed.table m) bs nth s.text (calls.work feed.table nth (frame_boxes bs) (lent_of m s))
unfolding frame calls.work
frames_view feed m s z bs nth few =
    let whole = verdict-whole feed m s z (frame_boxes bs) (rw (boxes-many bs) few) in
    by_verdict (tracker_of feed.table m) bs nth s.output s.doubles s.singles s.text (verdict_of feed.table (frame_boxes bs) (lent_of m s)) (rw whole)

-- ---- lent memory holds the open frame's boxes and their labels

-- over what was there before them
abbrev laid_boxes : List BoxRecord → Boxes → Boxes
laid_boxes bs base = boxes_with (laid box_floats box_values bs base.values) (over (frame_labels bs) base.labels)

record Holds (feed : Feed) (m : Memory) (bs : List BoxRecord) : Type 0 where
  pub count : feed.opened.boxes ≡ length bs
  pub few : length bs ≤ 64
  pub base : Boxes
  pub long : length base.values ≡ lent_boxes
  pub long-labels : length base.labels ≡ lent_box_labels
  pub boxes : m.boxes ≡ laid_boxes bs base

module _ (feed : Feed) (m : Memory) (bs : List BoxRecord) (h : Holds feed m bs) where
  holds-long : length m.boxes.values ≡ lent_boxes
  holds-long =
      let few = h.few in
      let long = h.long in
      ap (λ (b : Boxes). length b.values) h.boxes ∙ length-laid box_floats box_values five bs h.base.values (omega (arith, few, long)) ∙ long

  holds-labels : length m.boxes.labels ≡ lent_box_labels
  holds-labels =
      let few = h.few in
      let long = h.long-labels in
      let many = length-map bs (λ (r : BoxRecord). r.label) in
      ap (λ (b : Boxes). length b.labels) h.boxes ∙ length_over (frame_labels bs) h.base.labels (omega (arith, few, long, many)) ∙ long

  -- the boxes that the open frame is worked with
  front-is : front feed.opened.boxes m.boxes ≡ frame_boxes bs
  front-is =
      let long = holds-long in
      let labels = holds-labels in
      let few = h.few in
      let e : min (length bs) (length m.boxes.values / box_values) * box_values ≡ length bs * box_values = omega (arith, long, few) in
      let q : min (length bs) (length m.boxes.labels) ≡ length bs = omega (arith, labels, few) in
      ap (λ (k : ℕ). front k m.boxes) h.count
      ∙ both (ap (λ (n : ℕ). take n m.boxes.values) e) (ap (λ (n : ℕ). take n m.boxes.labels) q)
      ∙ ap (λ (b : Boxes). boxes_with (take (length bs * box_values) b.values) (take (length bs) b.labels)) h.boxes
      ∙ both (held-front bs h.base.values) (label_front bs h.base.labels)

  -- one more box of the open frame, and the first of a new one
  holds_more : (then : Feed) (l : Lent) (r : BoxRecord) → feed.opened.boxes < 64 → then.opened.boxes ≡ feed.opened.boxes + 1
      → Holds then (memory_of l (stored_then r feed.opened.boxes m.boxes)) (bs ++ (r ∷ []))
  holds_more then l r low e =
      let count = h.count in
      let long = h.long in
      let labels = h.long-labels in
      let n = length-append bs (r ∷ []) in
      record {
        count = omega (arith, e, count, n);
        few = omega (arith, low, count, n);
        base = h.base;
        long = long;
        long-labels = labels;
        boxes = ap (λ (k : ℕ). stored_then r k m.boxes) count ∙ ap (stored_then r (length bs)) h.boxes
            ∙ both (held_more bs r h.base.values (omega (arith, low, count, long))) (label_more bs r h.base.labels (omega (arith, low, count, labels)));
      }

  holds-first : (then : Feed) (l : Lent) (r : BoxRecord) → then.opened.boxes ≡ 1 → Holds then (memory_of l (stored_then r 0 m.boxes)) (r ∷ [])
  holds-first then l r e =
      let long = holds-long in
      let labels = holds-labels in
      record {
        count = e;
        few = omega arith;
        base = m.boxes;
        long = long;
        long-labels = labels;
        boxes = both (held_first r m.boxes.values (omega (arith, long))) (label_first r m.boxes.labels (omega (arith, labels)));
      }

-- ---- what a call does, where it has room

room-is : (feed : Feed) (s : Scratch) → Sized feed s → has_room (length s.output) (length s.text) ≡ true
room-is feed s z = let o = z.output in let t = z.text in lt-ltb (length s.output / track_bytes) (length s.text / line_bytes) (omega (arith, o, t))

module _ (feed : Feed) (m : Memory) (s : Scratch) (z : Sized feed s) (call : Call) where
  abbrev now : Call
  now = call_then feed (lent_of m s) m.boxes call

  at_once : feed.empty ≡ 0 → now ≡ call
  at_once e = rw (room-is feed s z, e)

  empty-first : (k : ℕ) → feed.empty ≡ suc k
      → now ≡ call_with (again_then feed (work_front feed 0 m.boxes (lent_of m s)).answer) (work_front feed 0 m.boxes (lent_of m s)).lent m.boxes
  empty-first k e = rw (room-is feed s z, lt-ltb 0 feed.empty (omega (arith, e)))

-- the text that a call leaves at the front
shown : (text xs : List ℕ) → take (length xs) (splice text 0 xs) ≡ xs
shown text xs = text-written xs text

module _ (feed : Feed) (m : Memory) (s : Scratch) (z : Sized feed s) where
  empty-is : work_front feed 0 m.boxes (lent_of m s) ≡ calls.work feed.table feed.opened.first (frame_boxes []) (lent_of m s)
  unfolding work_front rows
  empty-is =
      let e : min 0 (length m.boxes.values / box_values) * box_values ≡ 0 = omega arith in
      let q : min 0 (length m.boxes.labels) ≡ 0 = omega arith in
      ap (λ (b : Boxes). calls.work feed.table feed.opened.first b (lent_of m s)) (both (ap (λ (n : ℕ). take n m.boxes.values) e) (ap (λ (n : ℕ). take n m.boxes.labels) q))

  open_is : (bs : List BoxRecord) → Holds feed m bs → eqb feed.opened.frame 0 ≡ false → work_open feed m.boxes (lent_of m s) ≡ calls.work feed.table feed.opened.first (frame_boxes bs) (lent_of m s)
  unfolding work_open work_front
  open_is bs h e = rw e (ap (λ (x : Boxes). calls.work feed.table feed.opened.first x (lent_of m s)) (front-is feed m bs h))

  none_is : eqb feed.opened.frame 0 ≡ true → work_open feed m.boxes (lent_of m s) ≡ work_with (done feed.table 0) (lent_of m s)
  unfolding work_open
  none_is e = rw e

-- ---- an empty frame that waits

-- what is printed from a call on, where the rest of the records is so
abbrev Tells : (Feed → Memory → List ℕ → Type 0) → (Feed → List Event) → List BoxRecord → Type 0
Tells P es bs = (feed : Feed) (m : Memory) (out : List ℕ) → P feed m out → Holds feed m bs → out ≡ text_of (tracker_of feed.table m) (empties feed.empty feed.opened.first ++ es feed)

module _ (feed : Feed) (m : Memory) (s : Scratch) (z : Sized feed s) (call : Call) (bs : List BoxRecord) (h : Holds feed m bs) (out : List ℕ)
    (Took More : Feed → Memory → List ℕ → Type 0) (es : OpenFrame → List Event) (ih : Tells More (λ (f : Feed). es f.opened) bs) (k : ℕ) (e : feed.empty ≡ suc k) where
  abbrev goal : Type 0
  goal = out ≡ text_of (tracker_of feed.table m) (empties (suc k) feed.opened.first ++ es feed.opened)

  empty-told : Frames (tracker_of feed.table m) [] feed.opened.first s.text (work_front feed 0 m.boxes (lent_of m s))
      → SaidOf (call_with (again_then feed (work_front feed 0 m.boxes (lent_of m s)).answer) (work_front feed 0 m.boxes (lent_of m s)).lent m.boxes) out Took More → goal
  empty-told (goes t' rs o d w u q) x =
      let then : Feed = feed_with feed.opened (feed.empty - 1) t'.state in
      let l : Lent = lent_with t'.table.floats t'.table.counters t'.table.labels o d w (splice s.text 0 (rows line rs)) in
      let y : Follows (take (length (rows line rs)) l.text) out (More then (memory_of l m.boxes)) =
      subst (λ (v : Work). SaidOf (call_with (again_then feed v.answer) v.lent m.boxes) out Took More) q x in
      let held : Holds then (memory_of l m.boxes) bs = record { count = h.count; few = h.few; base = h.base; long = h.long; long-labels = h.long-labels; boxes = h.boxes } in
      let less : feed.empty - 1 ≡ k = omega (arith, e) in
      let later = ih then (memory_of l m.boxes) y.rest y.follows held in
      y.split
      ∙ ap (λ (xs : List ℕ). xs ++ y.rest) (shown s.text (rows line rs))
      ∙ ap (λ (xs : List ℕ). rows line rs ++ xs) (later ∙ ap (λ (j : ℕ). text_of t' (empties j feed.opened.first ++ es feed.opened)) less)
      ∙ sym (text-one-empty (tracker_of feed.table m) k feed.opened.first (es feed.opened) ∙ text-goes (tracker_of feed.table m) 0 [] feed.opened.first (empties k feed.opened.first ++ es feed.opened) u)
  empty-told (stops n l u q p) x =
      let y : out ≡ take (length (refused_line n feed.opened.first)) l.text =
      subst (λ (v : Work). SaidOf (call_with (again_then feed v.answer) v.lent m.boxes) out Took More) q x in
      y
      ∙ ap (take (length (refused_line n feed.opened.first))) p
      ∙ shown s.text (refused_line n feed.opened.first)
      ∙ sym (text-one-empty (tracker_of feed.table m) k feed.opened.first (es feed.opened) ∙ text_stops (tracker_of feed.table m) 0 [] feed.opened.first (empties k feed.opened.first ++ es feed.opened) u)

  told-empty : SaidOf (call_then feed (lent_of m s) m.boxes call) out Took More → goal
  told-empty x =
      empty-told
      (subst (Frames (tracker_of feed.table m) [] feed.opened.first s.text) (sym (empty-is feed m s z)) (frames_view feed m s z [] feed.opened.first (omega arith)))
      (subst (λ (c : Call). SaidOf c out Took More) (empty-first feed m s z call k e) x)

-- ---- the open frame, before a record of a later one and at the end

module _ (feed : Feed) (m : Memory) (s : Scratch) (z : Sized feed s) (bs : List BoxRecord) (h : Holds feed m bs) (out : List ℕ) (Took More : Feed → Memory → List ℕ → Type 0) where
  abbrev tracker : Tracker
  tracker = tracker_of feed.table m

  abbrev st : OpenFrame
  st = feed.opened

  abbrev opening : Work
  opening = work_open feed m.boxes (lent_of m s)

  open_view : eqb st.frame 0 ≡ false → Frames tracker bs st.first s.text opening
  open_view e = subst (Frames tracker bs st.first s.text) (sym (open_is feed m s z bs h e)) (frames_view feed m s z bs st.first (let n = h.count in omega (arith, n)))

  abbrev worked : Bool → List Event
  worked b = cond b [] (work st.frame bs st.first ∷ [])

  -- a record r of a later frame
  module _ (r : BoxRecord) (k f : ℕ) (op : OpenFrame) (one : op.boxes ≡ 1) (es : OpenFrame → List Event) (ih : Tells Took (λ (x : Feed). es x.opened) (r ∷ [])) where
    abbrev after : Work → Call
    after w = call_with (later_then k op w.answer) w.lent (boxes_then r w.answer m.boxes)

    abbrev comes : List Event
    comes = empty_work k f op.first ++ es op

    none-later : opening ≡ work_with (done feed.table 0) (lent_of m s) → SaidOf (after opening) out Took More → out ≡ text_of tracker comes
    none-later q x =
        let then : Feed = feed_with op k feed.table in
        let y : Follows [] out (Took then (memory_of (lent_of m s) (stored_then r 0 m.boxes))) = subst (λ (w : Work). SaidOf (after w) out Took More) q x in
        y.split
        ∙ ih then (memory_of (lent_of m s) (stored_then r 0 m.boxes)) y.rest y.follows (holds-first feed m bs h then (lent_of m s) r one)
        ∙ sym (text-empties tracker k f op.first (es op))

    some-later : Frames tracker bs st.first s.text opening → SaidOf (after opening) out Took More → out ≡ text_of tracker (work st.frame bs st.first ∷ comes)
    some-later (goes t' rs o d w u q) x =
        let then : Feed = feed_with op k t'.state in
        let l : Lent = lent_with t'.table.floats t'.table.counters t'.table.labels o d w (splice s.text 0 (rows line rs)) in
        let y : Follows (take (length (rows line rs)) l.text) out (Took then (memory_of l (stored_then r 0 m.boxes))) = subst (λ (v : Work). SaidOf (after v) out Took More) q x in
        y.split
        ∙ ap (λ (xs : List ℕ). xs ++ y.rest) (shown s.text (rows line rs))
        ∙ ap (λ (xs : List ℕ). rows line rs ++ xs)
        (ih then (memory_of l (stored_then r 0 m.boxes)) y.rest y.follows (holds-first feed m bs h then l r one) ∙ sym (text-empties t' k f op.first (es op)))
        ∙ sym (text-goes tracker st.frame bs st.first comes u)
    some-later (stops n l u q p) x =
        let y : out ≡ take (length (refused_line n st.first)) l.text = subst (λ (v : Work). SaidOf (after v) out Took More) q x in
        y
        ∙ ap (take (length (refused_line n st.first))) p
        ∙ shown s.text (refused_line n st.first)
        ∙ sym (text_stops tracker st.frame bs st.first comes u)

    by_open : (b : Bool) → eqb st.frame 0 ≡ b → SaidOf (after opening) out Took More → out ≡ text_of tracker (worked b ++ comes)
    by_open true e x = none-later (none_is feed m s z e) x
    by_open false e x = some-later (open_view e) x

    told-later : SaidOf (later_call feed r k op (lent_of m s) m.boxes) out Took More → out ≡ text_of tracker (open_work st bs ++ comes)
    unfolding open_work
    told-later x = by_open (eqb st.frame 0) refl x

  -- the end
  abbrev last : Work → Call
  last w = call_with (last_then w.answer) w.lent m.boxes

  none_last : opening ≡ work_with (done feed.table 0) (lent_of m s) → SaidOf (last opening) out Took More → out ≡ text_of tracker []
  none_last q x = let y : out ≡ [] = subst (λ (w : Work). SaidOf (last w) out Took More) q x in y ∙ sym (text-none tracker)

  some-last : Frames tracker bs st.first s.text opening → SaidOf (last opening) out Took More → out ≡ text_of tracker (work st.frame bs st.first ∷ [])
  some-last (goes t' rs o d w u q) x =
      let y : out ≡ take (length (rows line rs)) (splice s.text 0 (rows line rs)) = subst (λ (v : Work). SaidOf (last v) out Took More) q x in
      y
      ∙ shown s.text (rows line rs)
      ∙ sym (text-goes tracker st.frame bs st.first [] u ∙ ap (λ (xs : List ℕ). rows line rs ++ xs) (text-none t') ∙ append-nil (rows line rs))
  some-last (stops n l u q p) x =
      let y : out ≡ take (length (refused_line n st.first)) l.text = subst (λ (v : Work). SaidOf (last v) out Took More) q x in
      y
      ∙ ap (take (length (refused_line n st.first))) p
      ∙ shown s.text (refused_line n st.first)
      ∙ sym (text_stops tracker st.frame bs st.first [] u)

  last_open : (b : Bool) → eqb st.frame 0 ≡ b → SaidOf (last opening) out Took More → out ≡ text_of tracker (worked b)
  last_open true e x = none_last (none_is feed m s z e) x
  last_open false e x = some-last (open_view e) x

  told-last : SaidOf (last opening) out Took More → out ≡ text_of tracker (open_work st bs)
  unfolding open_work
  told-last x = last_open (eqb st.frame 0) refl x

  told-refused : (why nth : ℕ) (es : List Event) → SaidOf (refuses why nth (lent_of m s) m.boxes) out Took More → out ≡ text_of tracker (refuse why nth ∷ es)
  told-refused why nth es x = x ∙ shown s.text (refused_line why nth) ∙ sym (text-refuse tracker why nth es)

  -- ---- a record

  module _ (r : BoxRecord) (rs : List BoxRecord) (rest : ℕ) (nth : ℕ) (ih : (bs' : List BoxRecord) → Tells Took (λ (x : Feed). ahead x.opened bs' rs rest) bs') where
    abbrev to_come : Result Next Fault → List Event
    to_come n = told st bs n ++ cond (goes_on n) (ahead (state_then st n) (feeding.boxes_then bs r n) rs rest) []

    told-next : (n : Result Next Fault) → Judges st nth r.frame n → SaidOf (next_then feed r n (lent_of m s) m.boxes) out Took More → out ≡ text_of tracker (to_come n)
    told-next n (back t) x = told-refused 42 nth [] x
    told-next n (far a b) x = told-refused 43 nth [] x
    told-next n (full a q b) x = told-refused 44 nth [] x
    told-next n (later a b l) x =
        let k : ℕ = r.frame - st.frame - 1 in
        let op : OpenFrame = opened nth r.frame in
        told-later r k (st.frame + 1) op refl (λ (o : OpenFrame). ahead o (r ∷ []) rs rest) (ih (r ∷ [])) x
        ∙ ap (text_of tracker) (sym (append_assoc (open_work st bs) (empty_work k (st.frame + 1) nth) (ahead op (r ∷ []) rs rest)))
    told-next n (same a q b) x =
        let op : OpenFrame = grown st nth (st.boxes + 1) in
        let then : Feed = feed_with op 0 feed.table in
        let y : Follows [] out (Took then (memory_of (lent_of m s) (stored_then r st.boxes m.boxes))) = x in
        y.split
        ∙ ih (bs ++ (r ∷ [])) then (memory_of (lent_of m s) (stored_then r st.boxes m.boxes)) y.rest y.follows (holds_more feed m bs h then (lent_of m s) r b refl)
        ∙ text-no-empty tracker op.first (ahead op (bs ++ (r ∷ [])) rs rest)

  -- ---- the end of the input

  told-end : (rest nth : ℕ) → SaidOf (end_then feed (closed nth rest) (lent_of m s) m.boxes) out Took More → out ≡ text_of tracker (told_at_end st bs (closed nth rest))
  unfolding closed
  told-end rest nth x = by_rest (ltb 0 rest) x
    where
      by_rest : (b : Bool) → SaidOf (end_then feed (cond b (Err (fault RecordIncomplete nth)) (Ok tt)) (lent_of m s) m.boxes) out Took More
          → out ≡ text_of tracker (told_at_end st bs (cond b (Err (fault RecordIncomplete nth)) (Ok tt)))
      by_rest true x = told-refused 41 nth [] x
      by_rest false x = told-last x

-- ---- all calls

taken_is : (feed : Feed) (r : BoxRecord) (l : Lent) (boxes : Boxes) → taken feed r l boxes ≡ call_then feed l boxes (next_then feed r (judged feed.opened (nth_after feed.opened.records) r.frame) l boxes)
unfolding taken
taken_is feed r l boxes = refl

finished-is : (feed : Feed) (rest : ℕ) (l : Lent) (boxes : Boxes) → finished feed rest l boxes ≡ call_then feed l boxes (end_then feed (closed (nth_after feed.opened.records) rest) l boxes)
unfolding finished
finished-is feed rest l boxes = refl

ahead_more : (st : OpenFrame) (bs : List BoxRecord) (r : BoxRecord) (rs : List BoxRecord) (rest : ℕ) (n : Result Next Fault) → n ≡ judged st (nth_after st.records) r.frame
    → told st bs n ++ cond (goes_on n) (ahead (state_then st n) (feeding.boxes_then bs r n) rs rest) [] ≡ ahead st bs (r ∷ rs) rest
unfolding ahead
ahead_more st bs r rs rest n e = rw e

ahead-end : (st : OpenFrame) (bs : List BoxRecord) (rest : ℕ) → told_at_end st bs (closed (nth_after st.records) rest) ≡ ahead st bs [] rest
unfolding ahead
ahead-end opened bs rest = refl

module _ (feed : Feed) (m : Memory) (s : Scratch) (z : Sized feed s) (bs : List BoxRecord) (h : Holds feed m bs) (out : List ℕ) (rest : ℕ) (Took More : Feed → Memory → List ℕ → Type 0) where
  abbrev Goal : List BoxRecord → ℕ → Type 0
  Goal rs k = out ≡ text_of (tracker_of feed.table m) (empties k feed.opened.first ++ ahead feed.opened bs rs rest)

  last-call : Tells More (λ (x : Feed). ahead x.opened bs [] rest) bs → SaidOf (call_then feed (lent_of m s) m.boxes (end_then feed (closed (nth_after feed.opened.records) rest) (lent_of m s) m.boxes)) out Took More
      → (k : ℕ) → feed.empty ≡ k → Goal [] k
  last-call ih x zero e =
      told-end feed m s z bs h out Took More rest (nth_after feed.opened.records) (subst (λ (c : Call). SaidOf c out Took More) (at_once feed m s z _ e) x)
      ∙ ap (text_of (tracker_of feed.table m)) (ahead-end feed.opened bs rest)
      ∙ sym (text-no-empty (tracker_of feed.table m) feed.opened.first (ahead feed.opened bs [] rest))
  last-call ih x (suc k) e = told-empty feed m s z _ bs h out Took More (λ (o : OpenFrame). ahead o bs [] rest) ih k e x

  one-call : (r : BoxRecord) (rs : List BoxRecord) → ((bs' : List BoxRecord) → Tells Took (λ (x : Feed). ahead x.opened bs' rs rest) bs') → Tells More (λ (x : Feed). ahead x.opened bs (r ∷ rs) rest) bs
      → SaidOf (call_then feed (lent_of m s) m.boxes (next_then feed r (judged feed.opened (nth_after feed.opened.records) r.frame) (lent_of m s) m.boxes)) out Took More
      → (k : ℕ) → feed.empty ≡ k → Goal (r ∷ rs) k
  one-call r rs took more x zero e =
      let n : Result Next Fault = judged feed.opened (nth_after feed.opened.records) r.frame in
      told-next feed m s z bs h out Took More r rs rest (nth_after feed.opened.records) took n (judges feed.opened (nth_after feed.opened.records) r.frame)
      (subst (λ (c : Call). SaidOf c out Took More) (at_once feed m s z _ e) x)
      ∙ ap (text_of (tracker_of feed.table m)) (ahead_more feed.opened bs r rs rest n refl)
      ∙ sym (text-no-empty (tracker_of feed.table m) feed.opened.first (ahead feed.opened bs (r ∷ rs) rest))
  one-call r rs took more x (suc k) e = told-empty feed m s z _ bs h out Took More (λ (o : OpenFrame). ahead o bs (r ∷ rs) rest) more k e x

prints-text : (n : ℕ) (rs : List BoxRecord) (rest : ℕ) (bs : List BoxRecord) → Tells (Prints n rs rest) (λ (x : Feed). ahead x.opened bs rs rest) bs
unfolding Prints
prints-text zero rs rest bs feed m out x h = absurd x
prints-text (suc n) [] rest bs feed m out x h =
    last-call feed m x.scratch x.sized bs h out rest (λ (f : Feed) (m : Memory) (o : List ℕ). ⊥) (Prints n [] rest) (prints-text n [] rest bs)
    (subst (λ (c : Call). SaidOf c out (λ (f : Feed) (m : Memory) (o : List ℕ). ⊥) (Prints n [] rest)) (finished-is feed rest (lent_of m x.scratch) m.boxes) x.then)
    feed.empty refl
prints-text (suc n) (r ∷ rs) rest bs feed m out x h =
    one-call feed m x.scratch x.sized bs h out rest (Prints n rs rest) (Prints n (r ∷ rs) rest) r rs (prints-text n rs rest) (prints-text n (r ∷ rs) rest bs)
    (subst (λ (c : Call). SaidOf c out (Prints n rs rest) (Prints n (r ∷ rs) rest)) (taken_is feed r (lent_of m x.scratch) m.boxes) x.then)
    feed.empty refl

-- ---- the theorem

pub printed-is : PrintedIs
unfolding text_of printing trackbox
printed-is bytes boxes n out w e labels x =
    let rs : List BoxRecord = box_records bytes in
    let rest : ℕ = length bytes % box_bytes in
    let none : boxes ≡ laid_boxes [] boxes = both (laid_none box_floats box_values boxes.values) (over_none boxes.labels) in
    prints-text n rs rest [] start (memory boxes) out x (record { count = refl; few = omega arith; base = boxes; long = e; long-labels = labels; boxes = none })
    ∙ text-no-empty begin 1 (ahead rules.start [] rs rest)
    ∙ ap (text_of begin) (sym (all-ahead rs rest))
    ∙ trackbox-fed updated begin bytes w
