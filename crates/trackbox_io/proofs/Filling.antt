-- Along holds before the first turn, and is kept where what waits is written out and where the buffer is filled. Assumes nothing.
use mathlib.Core.Path.{◌≡◌, refl, sym, ap, subst, ◌∙◌}
use mathlib.Core.Bool.{Bool, true, false, cond, ◌&&◌, ◌||◌, true≢false}
use mathlib.Core.List.{List, [], ◌++◌, append_assoc, append-nil}
use Prim.Native.Nat.{ℕ, ◌+◌, ◌/◌, ◌%◌, ◌≤◌}
use native.Mathlib.Nat.{zero-add}
use native.Mathlib.Omega.{arith}
use lib.Dec.{leb}
use lib.ListN.{length, take, drop, length-append}
use lib.Seq.{length-take-le}
use borrow.Author.Tests.{leb-true}
use Rattle.laws.specs.Tests.{and_left, and_right}
use Rattle.records.specs.declared.box_record.BoxRecord.{BoxRecord}
use Rattle.records.specs.BoxRecord.{box_bytes}
use Rattle.trackbox_stream.specs.Stream.{box_records}
use Rattle.trackbox_feed.specs.Trackbox.{lent_boxes, lent_box_labels}
use Rattle.trackbox_feed.specs.Feed as calls
use Rattle.trackbox_feed.specs.Laws.{Memory, Prints, memory}
use Rattle.std.proofs.Common.{Option, Some, None}
use Rattle.program_io.specs.Input.{Within}
use Rattle.trackbox_progress.specs.declared.progress.Progress.{Progress}
use Rattle.trackbox_progress.specs.Progress.{start, spent, stopped, cleared, emptied}
use Rattle.trackbox_io.specs.Turn.{input_bytes, crowded, refilled, Arrays, boxes_of, with_input, Empties, Fills}
use Rattle.trackbox_io.specs.Laws.{waiting}
use Rattle.trackbox_io.specs.Printed.{memory_in, Onward, Along}
use Rattle.trackbox_io.proofs.BufferRecords.{records-split, records-none}

-- ---- before the first turn

pub records_of_none : box_records [] ≡ []
records_of_none = records-none [] 0 refl

pub start_along : (bytes : ℕ) (a : Arrays) → memory_in a ≡ memory (boxes_of a) → length a.boxes ≡ lent_boxes → length a.box_labels ≡ lent_box_labels → Along (start bytes) a
start_along bytes a e z w = record {
  before = [];
  held = [];
  written = [];
  count = 0;
  base = boxes_of a;
  long = z;
  long-labels = w;
  whole = refl;
  next-in = omega arith;
  full = λ _. refl;
  is_held = λ _. refl;
  many = refl;
  goes = λ _ n tail rest out o x.
      let y : Prints n tail rest calls.start (memory_in a) out = subst (λ (l : List BoxRecord). Prints n (l ++ tail) rest calls.start (memory_in a) out) records_of_none x in
      let first : Prints n tail rest calls.start (memory (boxes_of a)) out = subst (λ (m : Memory). Prints n tail rest calls.start m out) e y in
      rw (zero-add n, records_of_none) first;
  done = λ q. absurd (true≢false q);
}

-- ---- what waits is written out

pub onward_as : (p q : Progress) (tail : List BoxRecord) (rest : ℕ) → p.more ≡ q.more → p.got ≡ q.got → Onward p tail rest → Onward q tail rest
onward_as p q tail rest m g o = record { none = λ e. o.none (m ∙ e); rest-is = λ e. o.rest-is (m ∙ e) ∙ ap (λ (k : ℕ). k % box_bytes) g }

pub going_or : (g f : Bool) → g ≡ true → (g || f) ≡ true
going_or g f e = ap (λ (b : Bool). b || f) e

cleared_along : (p : Progress) (a : Arrays) → p.going ≡ true → Along p a → Along (cleared p) a
cleared_along p a g l = record {
  before = l.before;
  held = l.held;
  written = l.written ++ waiting p a;
  count = l.count;
  base = l.base;
  long = l.long;
  long-labels = l.long-labels;
  whole = l.whole;
  next-in = l.next-in;
  full = l.full;
  is_held = l.is_held;
  many = l.many;
  goes = λ q n tail rest out o x.
      subst (λ (t : List ℕ). Prints (l.count + n) (box_records l.before ++ (box_records l.held ++ tail)) rest calls.start (memory l.base) (t ++ out)) (sym (append-nil (l.written ++ waiting p a)))
      (l.goes q n tail rest out (onward_as (cleared p) p tail rest refl refl o) x);
  done = λ q. absurd (true≢false (sym (going_or p.going p.failed g) ∙ q));
}

-- a call of C failed: what holds of what was printed stays, whatever the buffer has now
stopped_along : (p : Progress) (a : Arrays) (input : List ℕ) → (p.going || p.failed) ≡ true → Along p a → Along (stopped p) (with_input input a)
stopped_along p a input g l = record {
  before = l.before;
  held = l.held;
  written = l.written;
  count = l.count;
  base = l.base;
  long = l.long;
  long-labels = l.long-labels;
  whole = l.whole;
  next-in = l.next-in;
  full = l.full;
  is_held = λ e. absurd (true≢false (sym e));
  many = l.many;
  goes = λ q n tail rest out o x. l.goes g n tail rest out (onward_as (stopped p) p tail rest refl refl o) x;
  done = λ q. absurd (true≢false q);
}

-- the same with another buffer, of which the first bytes are the same
moved_along : (p : Progress) (a : Arrays) (input : List ℕ) → input ≡ a.input → Along p a → Along p (with_input input a)
moved_along p a input e l = subst (λ (i : List ℕ). Along p (with_input i a)) (sym e) l

pub empty_along : (p r : Progress) (a : Arrays) (size : ℕ) → p.going ≡ true → Along p a → Empties p r size → Along r (with_input a.input a)
empty_along p r a size g l e = subst (λ (q : Progress). Along q (with_input a.input a)) (sym e.so) (by_due (crowded p.used size || spent p))
  where
    by_written : (w : Bool) → Along (emptied p w) (with_input a.input a)
    by_written true = moved_along (cleared p) a a.input refl (cleared_along p a g l)
    by_written false = stopped_along p a a.input (going_or p.going p.failed g) l

    by_due : (b : Bool) → Along (cond b (emptied p e.written) p) (with_input a.input a)
    by_due true = by_written e.written
    by_due false = moved_along p a a.input refl l

-- ---- the buffer is filled

module _ (p : Progress) (a : Arrays) (after : List ℕ) (n : ℕ) (g : p.going ≡ true) (d : spent p ≡ true) (low : n ≤ input_bytes) (z : length after ≡ input_bytes) (l : Along p a) where
  more-is : p.more ≡ true
  more-is = and_right (leb (p.got / box_bytes) p.next) p.more d

  all-taken : drop p.next (box_records l.held) ≡ []
  all-taken =
      let past = leb-true (p.got / box_bytes) p.next (and_left (leb (p.got / box_bytes) p.next) p.more d) in
      let within = l.next-in in
      let many = l.many in
      records-none l.held p.next (omega (arith, past, within, many))

  abbrev fresh : List ℕ
  fresh = take n after

  bytes_along : (size : ℕ) → size ≡ input_bytes → Along (refilled p size (Some n)) (with_input after a)
  bytes_along size e = record {
    before = l.before ++ l.held;
    held = fresh;
    written = l.written;
    count = l.count;
    base = l.base;
    long = l.long;
    long-labels = l.long-labels;
    whole = let s = length-append l.before l.held in let many = l.many in let full = l.full more-is in let whole = l.whole in omega (arith, s, many, full, whole);
    next-in = omega arith;
    full = λ q. let past = leb-true size n q in omega (arith, past, low, e);
    is_held = λ _. refl;
    many = length-take-le n after (omega (arith, low, z));
    goes = λ q k tail rest out o x.
        let y : Prints k (drop p.next (box_records l.held) ++ (box_records fresh ++ tail)) rest p.feed (memory_in a) out =
        subst (λ (t : List BoxRecord). Prints k (t ++ (box_records fresh ++ tail)) rest p.feed (memory_in a) out) (sym all-taken) x in
        let w = l.goes (going_or p.going p.failed g) k (box_records fresh ++ tail) rest out
        (record { none = λ f. absurd (true≢false (sym more-is ∙ f)); rest-is = λ f. absurd (true≢false (sym more-is ∙ f)) }) y in
        let regroup : box_records (l.before ++ l.held) ++ (box_records fresh ++ tail) ≡ box_records l.before ++ (box_records l.held ++ (box_records fresh ++ tail)) =
        ap (λ (t : List BoxRecord). t ++ (box_records fresh ++ tail)) (records-split l.before l.held l.whole) ∙ append_assoc (box_records l.before) (box_records l.held) (box_records fresh ++ tail) in
        subst (λ (t : List BoxRecord). Prints (l.count + k) t rest calls.start (memory l.base) ((l.written ++ waiting p a) ++ out)) (sym regroup) w;
    done = λ q. absurd (true≢false (sym (going_or p.going p.failed g) ∙ q));
  }

pub fill_along : (p r : Progress) (a : Arrays) (after : List ℕ) → (p.going || p.failed) ≡ true → length a.input ≡ input_bytes → length after ≡ input_bytes → Along p a → Fills p r a.input after → Along r (with_input after a)
fill_along p r a after ok z z' l f = subst (λ (q : Progress). Along q (with_input after a)) (sym f.so) (by_due (p.going && spent p) refl)
  where
    by_input : (p.going && spent p) ≡ true → (i : Option ℕ) → Within (length a.input) i → Along (refilled p (length a.input) i) (with_input after a)
    by_input d (Some n) w = bytes_along p a after n (and_left p.going (spent p) d) (and_right p.going (spent p) d) (omega (arith, w, z)) z' l (length a.input) z
    by_input d None w = stopped_along p a after ok l

    by_due : (b : Bool) → (p.going && spent p) ≡ b → Along (cond b (refilled p (length a.input) f.input) p) (with_input after a)
    by_due true d = by_input d f.input f.within
    by_due false d = moved_along p a after (f.same d) l
