-- Along is kept where a record or the end is handed on. Assumes nothing.
use mathlib.Core.Path.{◌≡◌, refl, sym, ap, subst, ◌∙◌}
use mathlib.Core.Bool.{Bool, true, false, ◌&&◌, ◌||◌, true≢false}
use mathlib.Core.List.{List, [], ◌∷◌, ◌++◌, append_assoc, append-nil}
use Prim.Native.Nat.{ℕ, suc, ◌+◌, ◌-◌, ◌*◌, ◌/◌, ◌%◌, ◌≤◌, ◌<◌}
use native.Mathlib.Nat.{lt_of_not-le}
use native.Mathlib.Decide.{dec_le}
use native.Mathlib.Omega.{arith}
use lib.ListN.{length, take, drop, length-drop, length-append}
use lib.Seq.{length-take-le}
use borrow.Author.Tests.{le-leb, lt-leb, lt-ltb}
use Rattle.records.specs.declared.box_record.BoxRecord.{BoxRecord}
use Rattle.records.specs.BoxRecord.{box_bytes}
use Rattle.records.specs.TrackRecord.{track_bytes}
use Rattle.records_line.specs.Line.{line_bytes}
use Rattle.records.specs.Field.{AreBytes}
use Rattle.trackbox_stream.specs.Stream.{box_records}
use Rattle.trackbox_feed.specs.declared.feed.Feed.{Feed}
use Rattle.trackbox_feed.specs.declared.feed.Item.{Item}
use Rattle.trackbox_feed.specs.declared.feed.Item.TheVariants.{Record, End}
use Rattle.trackbox_feed.specs.declared.feed.Fed.{Fed}
use Rattle.trackbox_feed.specs.declared.feed.Fed.TheVariants.{Taken, Again, Ended, Short}
use Rattle.trackbox_feed.specs.Trackbox.{lent_doubles, lent_singles, trackbox}
use Rattle.trackbox_feed.specs.Feed.{Lent, lent_with, has_room, Call, call_with, fed}
use Rattle.trackbox_feed.specs.Feed as calls
use Rattle.trackbox_feed.specs.Laws.{Memory, Scratch, Serves, square, Sized, lent_of, SaidOf, Prints, memory}
use Rattle.trackbox_feed.proofs.Theorem.{printed-is}
use Rattle.trackbox_progress.specs.declared.progress.Progress.{Progress}
use Rattle.trackbox_progress.specs.Progress.{spent, later}
use Rattle.trackbox_progress.specs.Progress.{item_at}
use Rattle.trackbox_io.specs.Turn.{text_bytes, call_bytes, answered, Arrays, boxes_of, Sizes, Stands, Hands}
use Rattle.trackbox_io.specs.Laws.{waiting, said}
use Rattle.trackbox_io.specs.Printed.{memory_in, Onward, Goes, Along}
use Rattle.trackbox_io.proofs.Waiting.{waiting_grows}
use Rattle.trackbox_io.proofs.BufferRecords.{record_at, records-split, records-next, records-none, record-front}
use Rattle.trackbox_io.proofs.CallAnswers.{AtEnd, AtRecord, finished-ends, taken-records, prints-record, prints-end}
use Rattle.trackbox_io.proofs.Filling.{onward_as, going_or}

regroup : (w x y o : List ℕ) {t : List ℕ} → t ≡ x ++ y → (w ++ x) ++ (y ++ o) ≡ (w ++ t) ++ o
regroup w x y o e = sym (ap (λ (t : List ℕ). (w ++ t) ++ o) e ∙ ap (λ (t : List ℕ). t ++ o) (sym (append_assoc w x y)) ∙ append_assoc (w ++ x) y o)

item_record : (next got : ℕ) (input : List ℕ) → next < got / box_bytes → item_at next got input ≡ Record (record_at input next)
unfolding item_at
item_record next got input h = rw (lt-leb (got / box_bytes) next h)

item_end : (next got : ℕ) (input : List ℕ) → got / box_bytes ≤ next → item_at next got input ≡ End (got % box_bytes)
unfolding item_at
item_end next got input h = rw (le-leb (got / box_bytes) next h)

-- one call of `take`, by p, whose text stands behind what waits
module _ (p r : Progress) (a b : Arrays) (za : Sizes a) (zb : Sizes b) (st : Stands p) (g : p.going ≡ true) (space : p.used ≤ text_bytes - call_bytes) (same : b.input ≡ a.input) (l : Along p a) (h : Hands p r a b) where
  abbrev scratch : Scratch
  scratch = record { output = a.output; doubles = take h.cells a.doubles; singles = take (4 * h.cells) a.singles; text = drop p.used a.text }

  sized : Sized p.feed scratch
  sized =
      let d = h.needed.doubles.bound in
      let f = h.needed.singles.bound in
      let zd = za.doubles in
      let zs = za.singles in
      let zt = za.text in
      let dl = length-take-le h.cells a.doubles (omega (arith, d, zd)) in
      let sl = length-take-le (4 * h.cells) a.singles (omega (arith, f, zs)) in
      let tl = length-drop p.used a.text in
      record {
        output = za.output;
        doubles = subst (Serves (square p.feed.table.count p.feed.opened.boxes) lent_doubles) (sym dl) h.needed.doubles;
        singles = subst (Serves (4 * square p.feed.table.count p.feed.opened.boxes) lent_singles) (sym sl) h.needed.singles;
        text = omega (arith, tl, zt, space);
      }

  abbrev lent : Lent
  lent = lent_of (memory_in a) scratch

  has_room_lem : has_room (length lent.memory.output) (length lent.text) ≡ true
  has_room_lem = let o = sized.output in let t = sized.text in lt-ltb (length a.output / track_bytes) (length (drop p.used a.text) / line_bytes) (omega (arith, o, t))

  abbrev left : Fed → Call
  left x = call_with x (lent_with b.floats b.counters b.labels b.output h.doubles h.singles h.text) (boxes_of b)

  -- what is known behind an answer
  abbrev after : Fed → Progress
  after x = answered p (length a.text) x

  -- what is printed of all records, those that may follow included; and what was printed before this call
  abbrev Whole : ℕ → List BoxRecord → ℕ → List ℕ → Type 0
  Whole n rs rest out = Prints n rs rest calls.start (memory l.base) out

  abbrev all : List BoxRecord → List BoxRecord
  all tail = box_records l.before ++ (box_records l.held ++ tail)

  abbrev printed : List ℕ
  printed = l.written ++ waiting p a

  call_of : {i : Item} → item_at p.next p.got a.input ≡ i → left h.answer ≡ fed p.feed i lent (boxes_of a)
  call_of e = h.call ∙ ap (λ (i : Item). fed p.feed i lent (boxes_of a)) e

  ok : (p.going || p.failed) ≡ true
  ok = going_or p.going p.failed g

  held-is : l.held ≡ take p.got a.input
  held-is = l.is_held g

  grows : waiting r b ≡ waiting p a ++ said h.answer h.text
  grows = let u = st.used in let zt = za.text in waiting_grows p r a b h (omega (arith, u, zt)) (za.text ∙ sym zb.text)

  -- what a call leaves, where another follows
  module _ (x : Fed) (xs : List ℕ) (q : h.answer ≡ x) (says : said x h.text ≡ xs) where
    waits : waiting (after x) b ≡ waiting p a ++ xs
    waits = ap (λ (y : Progress). waiting y b) (sym (h.so ∙ ap (answered p (length a.text)) q)) ∙ grows ∙ ap (λ (y : Fed). waiting p a ++ said y h.text) q ∙ ap (λ (t : List ℕ). waiting p a ++ t) says

    counted : (n rest : ℕ) (rs : List BoxRecord) (out : List ℕ) → Whole (l.count + suc n) rs rest (printed ++ (xs ++ out))
        → Whole (l.count + 1 + n) rs rest ((l.written ++ waiting (after x) b) ++ out)
    counted n rest rs out y =
        let e : l.count + suc n ≡ l.count + 1 + n = omega arith in
        subst (λ (k : ℕ). Whole k rs rest ((l.written ++ waiting (after x) b) ++ out)) e
        (subst (λ (t : List ℕ). Whole (l.count + suc n) rs rest t) (regroup l.written (waiting p a) xs out waits) y)

    -- the last call: all that was read is printed
    told : Whole (l.count + 1) (all []) (p.got % box_bytes) (printed ++ xs)
        → AreBytes (l.before ++ l.held) → l.written ++ waiting (after x) b ≡ trackbox (l.before ++ l.held)
    told y bytes =
        let size = length-append l.before l.held in
        let many = l.many in
        let whole = l.whole in
        let rest : p.got % box_bytes ≡ length (l.before ++ l.held) % box_bytes = omega (arith, size, many, whole) in
        let records : box_records l.before ++ (box_records l.held ++ []) ≡ box_records (l.before ++ l.held) =
        ap (λ (t : List BoxRecord). box_records l.before ++ t) (append-nil (box_records l.held)) ∙ sym (records-split l.before l.held l.whole) in
        let text : printed ++ xs ≡ l.written ++ waiting (after x) b =
        append_assoc l.written (waiting p a) xs ∙ ap (λ (t : List ℕ). l.written ++ t) (sym waits) in
        sym text
        ∙ printed-is (l.before ++ l.held) l.base (l.count + 1) (printed ++ xs) bytes l.long l.long-labels
        (subst (λ (k : ℕ). Whole (l.count + 1) (box_records (l.before ++ l.held)) k (printed ++ xs)) rest
        (subst (λ (t : List BoxRecord). Whole (l.count + 1) t (p.got % box_bytes) (printed ++ xs)) records y))

  -- the state behind a call
  along_with : (x : Fed) (m : Memory) → memory_in b ≡ m → (after x).got ≡ p.got → (after x).more ≡ p.more → (after x).next ≤ p.got / box_bytes
      → (((after x).going || (after x).failed) ≡ true → Goes (after x) m l.held l.before (l.written ++ waiting (after x) b) (l.count + 1) l.base)
      → (((after x).going || (after x).failed) ≡ false → AreBytes (l.before ++ l.held) → l.written ++ waiting (after x) b ≡ trackbox (l.before ++ l.held))
      → Along (after x) b
  along_with x m e got more next goes done = record {
    before = l.before;
    held = l.held;
    written = l.written;
    count = l.count + 1;
    base = l.base;
    long = l.long;
    long-labels = l.long-labels;
    whole = l.whole;
    next-in = subst (λ (k : ℕ). (after x).next ≤ k / box_bytes) (sym got) next;
    full = λ q. ap (λ (k : ℕ). k % box_bytes) got ∙ l.full (sym more ∙ q);
    is_held = λ _. held-is ∙ ap (take p.got) (sym same) ∙ ap (λ (k : ℕ). take k b.input) (sym got);
    many = l.many ∙ sym got;
    goes = λ q. subst (λ (m : Memory). Goes (after x) m l.held l.before (l.written ++ waiting (after x) b) (l.count + 1) l.base) (sym e) (goes q);
    done = done;
  }

  -- a record
  module _ (some : p.next < p.got / box_bytes) where
    abbrev rec : BoxRecord
    rec = record_at l.held p.next

    abbrev following : List BoxRecord
    following = drop (p.next + 1) (box_records l.held)

    next-is : drop p.next (box_records l.held) ≡ rec ∷ following
    next-is = let many = l.many in records-next l.held p.next (omega (arith, many, some))

    item_is : item_at p.next p.got a.input ≡ Record rec
    item_is =
        let low = st.got in
        let z = za.input in
        item_record p.next p.got a.input some
        ∙ ap Record (record-front a.input p.got p.next some (omega (arith, low, z)) ∙ ap (λ (t : List ℕ). record_at t p.next) (sym held-is))

    -- what is printed from this call on, by what the record's call says
    from-record : (x : Fed) → h.answer ≡ x → (n : ℕ) (tail : List BoxRecord) (rest : ℕ) (out : List ℕ) → Onward p tail rest
        → SaidOf (left x) out (Prints n (following ++ tail) rest) (Prints n (rec ∷ (following ++ tail)) rest)
        → Whole (l.count + suc n) (all tail) rest (printed ++ out)
    from-record x q n tail rest out o y =
        l.goes ok (suc n) tail rest out o
        (subst (λ (t : List BoxRecord). Prints (suc n) (t ++ tail) rest p.feed (memory_in a) out) (sym next-is)
        (prints-record n rest p.feed (memory_in a) scratch sized out rec (following ++ tail) (ap left (sym q) ∙ call_of item_is) y))

    record_along : (x : Fed) → h.answer ≡ x → AtRecord p.feed.empty x → Along (after x) b
    record_along (Taken feed k) q _ =
        let on : later p.next p.got ≡ p.next + 1 = rw (lt-ltb p.next (p.got / box_bytes) some) in
        along_with (Taken feed k) (memory_in b) refl refl refl (omega (arith, on, some))
        (λ _ n tail rest out o x.
        counted (Taken feed k) (take k h.text) q refl n rest (all tail) out
        (from-record (Taken feed k) q n tail rest (take k h.text ++ out) (onward_as (after (Taken feed k)) p tail rest refl refl o)
        (record { rest = out; split = refl; follows = subst (λ (j : ℕ). Prints n (drop j (box_records l.held) ++ tail) rest feed (memory_in b) out) on x })))
        (λ e. absurd (true≢false e))
    record_along (Again feed k) q _ =
        along_with (Again feed k) (memory_in b) refl refl refl l.next-in
        (λ _ n tail rest out o x.
        counted (Again feed k) (take k h.text) q refl n rest (all tail) out
        (from-record (Again feed k) q n tail rest (take k h.text ++ out) (onward_as (after (Again feed k)) p tail rest refl refl o)
        (record { rest = out; split = refl; follows = subst (λ (t : List BoxRecord). Prints n (t ++ tail) rest feed (memory_in b) out) next-is x })))
        (λ e. absurd (true≢false e))
    record_along (Ended k) q _ =
        along_with (Ended k) (memory_in b) refl refl refl l.next-in (λ e. absurd (true≢false (sym e)))
        (λ _. told (Ended k) (take k h.text) q refl
        (from-record (Ended k) q 0 [] (p.got % box_bytes) (take k h.text) (record { none = λ _. refl; rest-is = λ _. refl }) refl))
    record_along Short q never = absurd never

  -- the end
  module _ (past : p.got / box_bytes ≤ p.next) (last : p.more ≡ false) where
    none_left : drop p.next (box_records l.held) ≡ []
    none_left = let many = l.many in let within = l.next-in in records-none l.held p.next (omega (arith, many, within, past))

    from_end : (x : Fed) → h.answer ≡ x → (n : ℕ) (tail : List BoxRecord) (rest : ℕ) (out : List ℕ) → Onward p tail rest
        → SaidOf (left x) out (λ (f : Feed) (m : Memory) (o : List ℕ). ⊥) (Prints n [] (p.got % box_bytes))
        → Whole (l.count + suc n) (all tail) rest (printed ++ out)
    from_end x q n tail rest out o y =
        l.goes ok (suc n) tail rest out o
        (subst (λ (t : List BoxRecord). Prints (suc n) t rest p.feed (memory_in a) out) (sym (o.none last) ∙ ap (λ (t : List BoxRecord). t ++ tail) (sym none_left))
        (subst (λ (k : ℕ). Prints (suc n) [] k p.feed (memory_in a) out) (sym (o.rest-is last))
        (prints-end n (p.got % box_bytes) p.feed (memory_in a) scratch sized out (ap left (sym q) ∙ call_of (item_end p.next p.got a.input past)) y)))

    end_along : (x : Fed) → h.answer ≡ x → AtEnd p.feed.empty x → Along (after x) b
    end_along (Taken feed k) q never = absurd never
    end_along (Again feed k) q _ =
        along_with (Again feed k) (memory_in b) refl refl refl l.next-in
        (λ _ n tail rest out o x.
        let o' = onward_as (after (Again feed k)) p tail rest refl refl o in
        counted (Again feed k) (take k h.text) q refl n rest (all tail) out
        (from_end (Again feed k) q n tail rest (take k h.text ++ out) o'
        (record {
          rest = out;
          split = refl;
          follows = subst (λ (j : ℕ). Prints n [] j feed (memory_in b) out) (o'.rest-is last)
              (subst (λ (t : List BoxRecord). Prints n t rest feed (memory_in b) out) (ap (λ (t : List BoxRecord). t ++ tail) none_left ∙ o'.none last) x);
        })))
        (λ e. absurd (true≢false e))
    end_along (Ended k) q _ =
        along_with (Ended k) (memory_in b) refl refl refl l.next-in (λ e. absurd (true≢false (sym e)))
        (λ _. told (Ended k) (take k h.text) q refl
        (from_end (Ended k) q 0 [] (p.got % box_bytes) (take k h.text) (record { none = λ _. refl; rest-is = λ _. refl }) refl))
    end_along Short q never = absurd never

  pub hands_along : spent p ≡ false → Along r b
  hands_along s = subst (λ (y : Progress). Along y b) (sym h.so) (by_item (dec_le (p.got / box_bytes) p.next))
    where
      not_more : p.got / box_bytes ≤ p.next → p.more ≡ false
      not_more past = ap (λ (t : Bool). t && p.more) (sym (le-leb (p.got / box_bytes) p.next past)) ∙ s

      by_item : Dec (p.got / box_bytes ≤ p.next) → Along (after h.answer) b
      by_item (yes past) =
          end_along past (not_more past) h.answer refl
          (subst (AtEnd p.feed.empty) (ap (λ (c : Call). c.answer) (sym (call_of (item_end p.next p.got a.input past)))) (finished-ends p.feed lent (boxes_of a) has_room_lem (p.got % box_bytes)))
      by_item (no rest) =
          let some = lt_of_not-le rest in
          record_along some h.answer refl (subst (AtRecord p.feed.empty) (ap (λ (c : Call). c.answer) (sym (call_of (item_is some)))) (taken-records p.feed lent (boxes_of a) has_room_lem (rec some)))
