-- `printed`: what specs/Printed.antt states holds. Assumes nothing.
use mathlib.Core.Path.{◌≡◌, refl, sym, ap, subst, ◌∙◌}
use mathlib.Core.Bool.{Bool, true, false, cond, ◌&&◌, ◌||◌, true≢false}
use mathlib.Core.List.{List, [], ◌++◌, append_assoc, append-nil}
use Prim.Native.Nat.{ℕ, ◌+◌, ◌-◌, ◌/◌, ◌%◌, ◌≤◌}
use native.Mathlib.Nat.{lt_of_not-le}
use native.Mathlib.Decide.{dec_le}
use native.Mathlib.Omega.{arith}
use lib.Dec.{leb}
use lib.ListN.{length, drop, length-append}
use borrow.Author.Tests.{lt-leb, ltb-false}
use Rattle.records.specs.declared.box_record.BoxRecord.{BoxRecord}
use Rattle.records.specs.BoxRecord.{box_bytes}
use Rattle.records.specs.Field.{AreBytes}
use Rattle.trackbox_stream.specs.Stream.{box_records}
use Rattle.trackbox_feed.specs.Trackbox.{trackbox}
use Rattle.trackbox_feed.specs.Feed as calls
use Rattle.trackbox_feed.specs.Laws.{Prints, memory}
use Rattle.trackbox_feed.proofs.Theorem.{printed-is}
use Rattle.std.proofs.Common.{Option, Some, None}
use Rattle.program_io.specs.Prefix.{Prefix}
use Rattle.trackbox_progress.specs.declared.progress.Progress.{Progress}
use Rattle.trackbox_progress.specs.Progress.{spent, emptied}
use Rattle.trackbox_io.specs.Turn.{text_bytes, input_bytes, call_bytes, crowded, refilled, Arrays, with_input, Sizes, Stands, Empties, Fills, Turned}
use Rattle.trackbox_io.specs.Laws.{waiting}
use Rattle.trackbox_io.specs.Printed.{memory_in, Onward, Along, Printed}
use Rattle.trackbox_io.proofs.BufferRecords.{records-split}
use Rattle.trackbox_io.proofs.CallAnswers.{Some as SomeCalls, some}
use Rattle.trackbox_io.proofs.Filling.{records_of_none, start_along, going_or, empty_along, fill_along}
use Rattle.trackbox_io.proofs.Handing.{hands_along}

-- ---- a turn

module _ (p r : Progress) (size : ℕ) (e : Empties p r size) where
  empties-ok : p.going ≡ true → (r.going || r.failed) ≡ true
  empties-ok g = subst (λ (q : Progress). (q.going || q.failed) ≡ true) (sym e.so) (by_due (crowded p.used size || spent p))
    where
      by_written : (w : Bool) → ((emptied p w).going || (emptied p w).failed) ≡ true
      by_written true = going_or p.going p.failed g
      by_written false = refl

      by_due : (b : Bool) → ((cond b (emptied p e.written) p).going || (cond b (emptied p e.written) p).failed) ≡ true
      by_due true = by_written e.written
      by_due false = going_or p.going p.failed g

  -- there are 8 KiB for the text of a call
  empties-space : p.used ≤ text_bytes → size ≡ text_bytes → r.going ≡ true → r.used ≤ text_bytes - call_bytes
  empties-space low z g = by_due (crowded p.used size) (spent p) refl e.so
    where
      by_written : (w : Bool) → r ≡ emptied p w → r.used ≤ text_bytes - call_bytes
      by_written true q = let u : r.used ≡ 0 = ap (λ (x : Progress). x.used) q in omega (arith, u)
      by_written false q = absurd (true≢false (sym g ∙ ap (λ (x : Progress). x.going) q))

      by_due : (c d : Bool) → crowded p.used size ≡ c → r ≡ cond (c || d) (emptied p e.written) p → r.used ≤ text_bytes - call_bytes
      by_due true d t q = by_written e.written q
      by_due false true t q = by_written e.written q
      by_due false false t q =
          let room = ltb-false (size - p.used) call_bytes t in
          let u : r.used ≡ p.used = ap (λ (x : Progress). x.used) q in
          omega (arith, room, u, low, z)

module _ (p r : Progress) (before after : List ℕ) (f : Fills p r before after) (z : length before ≡ input_bytes) where
  -- behind a read that did not fail a record is there, or the end
  record Filled : Type 0 where
    pub from : p.going ≡ true
    pub used : r.used ≡ p.used
    pub ready : spent r ≡ false

  not_spent : (n size : ℕ) → size ≡ input_bytes → (leb (n / box_bytes) 0 && leb size n) ≡ false
  not_spent n size e = by_full (dec_le size n)
    where
      by_full : Dec (size ≤ n) → (leb (n / box_bytes) 0 && leb size n) ≡ false
      by_full (yes h) = ap (λ (b : Bool). b && leb size n) (lt-leb (n / box_bytes) 0 (omega (arith, h, e)))
      by_full (no h) = ap (λ (b : Bool). leb (n / box_bytes) 0 && b) (lt-leb size n (lt_of_not-le h)) ∙ and_false (leb (n / box_bytes) 0)
        where
          and_false : (b : Bool) → (b && false) ≡ false
          and_false true = refl
          and_false false = refl

  fills-on : r.going ≡ true → Filled
  fills-on g = by_due p.going (spent p) refl refl f.so
    where
      by_input : p.going ≡ true → (i : Option ℕ) → r ≡ refilled p (length before) i → Filled
      by_input pg (Some n) q = record { from = pg; used = ap (λ (x : Progress). x.used) q; ready = ap (λ (x : Progress). spent x) q ∙ not_spent n (length before) z }
      by_input pg None q = absurd (true≢false (sym g ∙ ap (λ (x : Progress). x.going) q))

      by_due : (c d : Bool) → p.going ≡ c → spent p ≡ d → r ≡ cond (c && d) (refilled p (length before) f.input) p → Filled
      by_due true true pg t q = by_input pg f.input q
      by_due true false pg t q = record { from = pg; used = ap (λ (x : Progress). x.used) q; ready = ap (λ (x : Progress). spent x) q ∙ t }
      by_due false d pg t q = absurd (true≢false (sym g ∙ ap (λ (x : Progress). x.going) q ∙ pg))

pub turn_along : (p r : Progress) (a b : Arrays) → Sizes a → Sizes b → Stands p → p.going ≡ true → (t : Turned p r a b) → Stands t.ready → Along p a → Along r b
turn_along p r a b za zb st g t sr l = by_going t.ready.going refl
  where
    filled : Along t.ready (with_input b.input a)
    filled =
        fill_along t.flushed t.ready (with_input a.input a) b.input (empties-ok p t.flushed (length a.text) t.empties g) za.input zb.input
        (empty_along p t.flushed a (length a.text) g l t.empties) t.fills

    by_going : (c : Bool) → t.ready.going ≡ c → Along r b
    by_going true e =
        let on = fills-on t.flushed t.ready a.input b.input t.fills za.input e in
        let space = empties-space p t.flushed (length a.text) t.empties st.used za.text on.from in
        let used = on.used in
        hands_along t.ready r (with_input b.input a) b
        (record {
          input = zb.input;
          text = za.text;
          floats = za.floats;
          counters = za.counters;
          labels = za.labels;
          boxes = za.boxes;
          box_labels = za.box_labels;
          output = za.output;
          doubles = za.doubles;
          singles = za.singles;
        })
        zb sr e (omega (arith, space, used)) refl filled (t.hands.goes e) on.ready
    by_going false e =
        let k = t.hands.stays e in
        subst (λ (x : Arrays). Along r x) (sym k.1) (subst (λ (x : Progress). Along x (with_input b.input a)) (sym k.0) filled)

-- ---- what was handed to the output is a prefix

-- of what trackbox prints of every input that starts with the bytes that were read; where they are all there are, of what it prints of them
pub prefix : (p : Progress) (a : Arrays) (l : Along p a) → (p.going || p.failed) ≡ true → (more : List ℕ) → (p.more ≡ false → more ≡ []) → AreBytes ((l.before ++ l.held) ++ more)
    → Prefix (l.written ++ waiting p a) (trackbox ((l.before ++ l.held) ++ more))
prefix p a l g more last bytes = record { rest = follow.out; split = sym (printed-is all l.base (l.count + follow.calls_made) ((l.written ++ waiting p a) ++ follow.out) bytes l.long l.long-labels prints) }
  where
    all : List ℕ
    all = (l.before ++ l.held) ++ more

    follow : SomeCalls (drop p.next (box_records l.held) ++ box_records more) (length all % box_bytes) p.feed (memory_in a)
    follow = some (drop p.next (box_records l.held) ++ box_records more) (length all % box_bytes) p.feed (memory_in a)

    by_more : (b : Bool) → p.more ≡ b → box_records l.before ++ (box_records l.held ++ box_records more) ≡ box_records all
    by_more true m =
        let s = length-append l.before l.held in
        let many = l.many in
        let full = l.full m in
        let whole = l.whole in
        sym (append_assoc (box_records l.before) (box_records l.held) (box_records more))
        ∙ ap (λ (t : List BoxRecord). t ++ box_records more) (sym (records-split l.before l.held l.whole))
        ∙ sym (records-split (l.before ++ l.held) more (omega (arith, s, many, full, whole)))
    by_more false m =
        ap (λ (t : List ℕ). box_records l.before ++ (box_records l.held ++ box_records t)) (last m)
        ∙ ap (λ (t : List BoxRecord). box_records l.before ++ (box_records l.held ++ t)) records_of_none
        ∙ ap (λ (t : List BoxRecord). box_records l.before ++ t) (append-nil (box_records l.held))
        ∙ sym (records-split l.before l.held l.whole)
        ∙ ap box_records (sym (append-nil (l.before ++ l.held)) ∙ ap (λ (t : List ℕ). (l.before ++ l.held) ++ t) (sym (last m)))

    onward : Onward p (box_records more) (length all % box_bytes)
    onward = record {
      none = λ m. ap box_records (last m) ∙ records_of_none;
      rest-is = λ m.
          let s = length-append l.before l.held in
          let t = length-append (l.before ++ l.held) more in
          let none : length more ≡ 0 = ap length (last m) in
          let many = l.many in
          let whole = l.whole in
          omega (arith, s, t, none, many, whole);
    }

    prints : Prints (l.count + follow.calls_made) (box_records all) (length all % box_bytes) calls.start (memory l.base) ((l.written ++ waiting p a) ++ follow.out)
    prints =
        subst (λ (t : List BoxRecord). Prints (l.count + follow.calls_made) t (length all % box_bytes) calls.start (memory l.base) ((l.written ++ waiting p a) ++ follow.out)) (by_more p.more refl)
        (l.goes g follow.calls_made (box_records more) (length all % box_bytes) follow.out onward follow.prints)

-- ---- all of them

pub printed : Printed
printed = record { start_along = start_along; turn_along = turn_along; prefix = prefix }
