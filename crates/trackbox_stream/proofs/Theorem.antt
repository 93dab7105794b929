-- `laws`: what specs/Laws.antt states holds. Fed is what is known when some records have passed, and each record keeps it (`fares`). Assumes nothing.
use mathlib.Core.Path.{◌≡◌, refl, sym, ap, subst, ◌∙◌}
use mathlib.Core.Bool.{Bool, true, false, cond, ◌||◌}
use mathlib.Core.List.{List, [], ◌∷◌, ◌++◌, foldl, foldl-append, append-nil, append_assoc}
use Prim.Native.Nat.{ℕ, ◌+◌, ◌-◌, ◌%◌, ◌≤◌, ◌<◌}
use native.Mathlib.Nat.{le_refl}
use native.Mathlib.Omega.{arith}
use lib.Dec.{eqb, ltb}
use lib.ListN.{length, length-append}
use borrow.Author.Tests.{ltb-true, lt-ltb, le-ltb, le-leb, lt-leb, ne_eqb}
use Rattle.laws.specs.Tests.{and_left, and_right}
use Rattle.laws.specs.Every.{every}
use Rattle.laws.specs.Tab.{tab}
use Rattle.laws.specs.Sieve.{sieve}
use Rattle.records.specs.declared.box_record.BoxRecord.{BoxRecord}
use Rattle.records.specs.Field.{AreBytes}
use Rattle.records.specs.BoxRecord.{box_bytes}
use Rattle.std.proofs.Common.{Result, Ok, Err}
use Rattle.trackbox_stream.specs.declared.rules.OpenFrame.{OpenFrame}
use Rattle.trackbox_stream.specs.declared.rules.Refusal.{Refusal}
use Rattle.trackbox_stream.specs.declared.rules.Refusal.TheVariants.{RecordIncomplete, FrameBack, FrameFar, TooManyBoxes}
use Rattle.trackbox_stream.specs.declared.rules.Fault.{Fault}
use Rattle.trackbox_stream.specs.declared.rules.Next.{Next}
use Rattle.trackbox_stream.specs.declared.rules.Next.TheVariants as next
use Rattle.trackbox_stream.specs.Rules.{number, fault, nth_after, opened, grown, judged, closed}
use Rattle.trackbox_stream.specs.Stream.{Event, refuse, last_frame, boxes_of, earlier, frames, refusal_of, Passing, passing_with, passing, done, why_of, events, box_records, Frame, Printed, printed_with, prints, printing, trackbox}
use Rattle.trackbox_stream.specs.Feeding.{Run, run_with, begin, open_work, empty_work, told, told_at_end, follow, feed, finish, fed}
use Rattle.trackbox_stream.specs.Laws.{frame_numbers, wide, Sound, Laws}
use Rattle.trackbox_stream.proofs.Wide.{wide-records}
use Rattle.trackbox_stream.proofs.Cases.{Ahead, ahead-some, Judges, back, far, later, full, same, judges}
use Rattle.trackbox_stream.proofs.Counts.{few-records, exact, sound-start, sound-opened, sound-grown, goes}
use Rattle.trackbox_stream.proofs.Rising.{frame-records}
use Rattle.trackbox_stream.proofs.Frames.{last-is, boxes-in, earlier-same, frames_kept, Bare, bare_more, frames_bare, open_worked}

-- ---- what is known when some records have passed

pub record Fed (passed : List BoxRecord) (run : Run) : Type 0 where
  pub sound : Sound run.state
  pub going : run.going ≡ true
  pub records : run.state.records ≡ length passed
  pub frame : run.state.frame ≡ last_frame passed
  pub first : run.state.first ≡ earlier run.state.frame passed + 1
  pub count : run.state.boxes ≡ length run.boxes
  pub boxes : run.boxes ≡ boxes_of run.state.frame passed
  -- all frames before the open one are worked
  pub log : run.log ≡ frames passed (run.state.frame - 1)
  pub bare : Bare passed run.state.frame

fed-begin : Fed [] begin
unfolding last_frame earlier boxes_of frames sieve tab
fed-begin = record {
  sound = sound-start;
  going = refl;
  records = refl;
  frame = refl;
  first = refl;
  count = refl;
  boxes = refl;
  log = refl;
  bare = record { no-boxes = λ f l. refl; all-before = λ f l. refl };
}

nth_is : (passed : List BoxRecord) (run : Run) → Fed passed run → nth_after run.state.records ≡ length passed + 1
nth_is passed run w = exact run.state w.sound ∙ ap (λ (n : ℕ). n + 1) w.records

fed-same : (passed : List BoxRecord) (run : Run) (r : BoxRecord) (nth : ℕ) → Fed passed run → nth ≡ length passed + 1 → Sound (grown run.state nth (run.state.boxes + 1))
    → 0 < r.frame → r.frame ≡ run.state.frame → Fed (passed ++ (r ∷ [])) (follow run r (Ok (next.Same (grown run.state nth (run.state.boxes + 1)))))
fed-same passed run r nth w e s p q = record {
  sound = s;
  going = refl;
  records = e ∙ sym (length-append passed (r ∷ []));
  frame = sym q ∙ sym (last-is passed r);
  first = w.first ∙ ap (λ (n : ℕ). n + 1) (sym (earlier-same passed r run.state.frame (omega arith)));
  count = ap (λ (n : ℕ). n + 1) w.count ∙ sym (length-append run.boxes (r ∷ []));
  boxes = ap (λ (l : List BoxRecord). l ++ (r ∷ [])) w.boxes ∙ sym (boxes-in passed r run.state.frame q);
  log = append-nil run.log ∙ w.log ∙ sym (frames_kept passed r (run.state.frame - 1) (omega arith));
  bare = subst (λ (f : ℕ). Bare (passed ++ (r ∷ [])) f) q (bare_more passed r run.state.frame w.bare (omega arith));
}

-- what was worked when frame r opens
later-log : (passed : List BoxRecord) (run : Run) (r : BoxRecord) (nth : ℕ) → Fed passed run → nth ≡ length passed + 1 → run.state.frame < r.frame
    → run.log ++ (open_work run.state run.boxes ++ empty_work (r.frame - run.state.frame - 1) (run.state.frame + 1) nth) ≡ frames (passed ++ (r ∷ [])) (r.frame - 1)
later-log passed run r nth w e l =
    let p : ℕ = run.state.frame in
    let m : ℕ = r.frame - run.state.frame - 1 in
    let z : run.state.frame + (r.frame - run.state.frame - 1) ≡ r.frame - 1 = omega arith in
    let below : r.frame - 1 < r.frame = omega arith in
    sym (append_assoc run.log (open_work run.state run.boxes) (empty_work m (p + 1) nth))
    ∙ ap (λ (es : List Event). es ++ empty_work m (p + 1) nth) (open_worked passed run.state run.boxes run.log w.log w.boxes w.first)
    ∙ ap (λ (n : ℕ). frames passed p ++ empty_work m (p + 1) n) e
    ∙ sym (frames_bare passed p m w.bare)
    ∙ ap (frames passed) z
    ∙ sym (frames_kept passed r (r.frame - 1) below)

fed-later : (passed : List BoxRecord) (run : Run) (r : BoxRecord) (nth : ℕ) → Fed passed run → nth ≡ length passed + 1 → Sound (opened nth r.frame) → run.state.frame < r.frame
    → Fed (passed ++ (r ∷ [])) (follow run r (Ok (next.Later (r.frame - run.state.frame - 1) (opened nth r.frame))))
fed-later passed run r nth w e s l = record {
  sound = s;
  going = refl;
  records = e ∙ sym (length-append passed (r ∷ []));
  frame = sym (last-is passed r);
  first = e ∙ ap (λ (n : ℕ). n + 1) (sym (earlier-same passed r r.frame (le_refl r.frame) ∙ w.bare.all-before r.frame l));
  count = refl;
  boxes = sym (boxes-in passed r r.frame refl ∙ ap (λ (b : List BoxRecord). b ++ (r ∷ [])) (w.bare.no-boxes r.frame l));
  log = later-log passed run r nth w e l;
  bare = bare_more passed r run.state.frame w.bare (omega arith);
}

-- ---- a record is turned down by both for the same reason

module _ (passed : List BoxRecord) (run : Run) (w : Fed passed run) (frame : ℕ) where
  refused-back : (eqb frame 0 || ltb frame run.state.frame) ≡ true → refusal_of passed frame ≡ 42
  unfolding refusal_of
  refused-back e = let t = rw w.frame at e in rw t

  refused-far : Ahead run.state frame → 1000 < frame - run.state.frame → refusal_of passed frame ≡ 43
  unfolding refusal_of
  refused-far a m =
      let t = rw w.frame at a in
      let u : last_frame passed + 1000 < frame = omega (arith, w.frame) in
      rw (t, lt-ltb (last_frame passed + 1000) frame u)

  passed_later : Ahead run.state frame → frame - run.state.frame ≤ 1000 → run.state.frame < frame → refusal_of passed frame ≡ 0
  unfolding refusal_of
  passed_later a m l =
      let t = rw w.frame at a in
      let u : frame ≤ last_frame passed + 1000 = omega (arith, w.frame) in
      rw (t, le-ltb (last_frame passed + 1000) frame u, w.bare.no-boxes frame l)

  held : frame ≡ run.state.frame → length (boxes_of frame passed) ≡ run.state.boxes
  held q = ap (λ (f : ℕ). length (boxes_of f passed)) q ∙ ap length (sym w.boxes) ∙ sym w.count

  refused_full : Ahead run.state frame → frame ≡ run.state.frame → 64 ≤ run.state.boxes → refusal_of passed frame ≡ 44
  unfolding refusal_of
  refused_full a q m =
      let t = rw w.frame at a in
      let u : frame ≤ last_frame passed + 1000 = omega (arith, w.frame) in
      rw (t, le-ltb (last_frame passed + 1000) frame u, held q, le-leb 64 run.state.boxes m)

  passed-same : Ahead run.state frame → frame ≡ run.state.frame → run.state.boxes < 64 → refusal_of passed frame ≡ 0
  unfolding refusal_of
  passed-same a q m =
      let t = rw w.frame at a in
      let u : frame ≤ last_frame passed + 1000 = omega (arith, w.frame) in
      rw (t, le-ltb (last_frame passed + 1000) frame u, held q, lt-leb 64 run.state.boxes m)

-- ---- one record

data Fares (passed : List BoxRecord) (run : Run) (r : BoxRecord) (n : Result Next Fault) : Type 0 where
  passes : refusal_of passed r.frame ≡ 0 → Fed (passed ++ (r ∷ [])) (follow run r n) → Fares passed run r n
  refuses : (why : Refusal) → n ≡ Err (fault why (length passed + 1)) → refusal_of passed r.frame ≡ number why → 0 < number why → Fares passed run r n

fares : (passed : List BoxRecord) (run : Run) (r : BoxRecord) → Fed passed run → r.frame < frame_numbers → Fares passed run r (judged run.state (nth_after run.state.records) r.frame)
fares passed run r w h = by_cases (judged run.state (nth_after run.state.records) r.frame) (judges run.state (nth_after run.state.records) r.frame)
  where
    e : nth_after run.state.records ≡ length passed + 1
    e = nth_is passed run w

    by_cases : (n : Result Next Fault) → Judges run.state (nth_after run.state.records) r.frame n → Fares passed run r n
    by_cases n (back t) = refuses FrameBack (ap (λ (k : ℕ). Err (fault FrameBack k)) e) (refused-back passed run w r.frame t) (omega arith)
    by_cases n (far a m) = refuses FrameFar (ap (λ (k : ℕ). Err (fault FrameFar k)) e) (refused-far passed run w r.frame a m) (omega arith)
    by_cases n (later a m l) =
        passes (passed_later passed run w r.frame a m l) (fed-later passed run r (nth_after run.state.records) w e (sound-opened run.state (nth_after run.state.records) r.frame w.sound (exact run.state w.sound) l h) l)
    by_cases n (full a q m) = refuses TooManyBoxes (ap (λ (k : ℕ). Err (fault TooManyBoxes k)) e) (refused_full passed run w r.frame a q m) (omega arith)
    by_cases n (same a q m) =
        let some = ahead-some run.state r.frame a in
        passes (passed-same passed run w r.frame a q m) (fed-same passed run r (nth_after run.state.records) w e (sound-grown run.state (nth_after run.state.records) w.sound (exact run.state w.sound) (omega arith) m) some q)

feed-going : (run : Run) (r : BoxRecord) → run.going ≡ true → feed run r ≡ follow run r (judged run.state (nth_after run.state.records) r.frame)
unfolding feed
feed-going run r e = ap (λ (g : Bool). cond g (follow run r (judged run.state (nth_after run.state.records) r.frame)) run) e

-- once a record is turned down, nothing more is done
feed-stopped : (rs : List BoxRecord) (run : Run) → run.going ≡ false → foldl feed run rs ≡ run
unfolding feed
feed-stopped [] run e = refl
feed-stopped (r ∷ rs) run e =
    ap (λ (x : Run). foldl feed x rs) (ap (λ (g : Bool). cond g (follow run r (judged run.state (nth_after run.state.records) r.frame)) run) e) ∙ feed-stopped rs run e

passing-on : (passed : List BoxRecord) (r : BoxRecord) (rs : List BoxRecord) → refusal_of passed r.frame ≡ 0 → passing passed (r ∷ rs) ≡ passing (passed ++ (r ∷ [])) rs
unfolding passing
passing-on passed r rs e = rw e

passing_off : (passed : List BoxRecord) (r : BoxRecord) (rs : List BoxRecord) (n : ℕ) → refusal_of passed r.frame ≡ n → 0 < n → passing passed (r ∷ rs) ≡ passing_with passed n
unfolding passing
passing_off passed r rs n e h = let z : n ≡ 0 → ⊥ = λ q. omega arith in rw (e, ne_eqb n 0 z)

done_all : (passed : List BoxRecord) → done passed 0 ≡ frames passed (last_frame passed)
unfolding done
done_all passed = refl

done-some : (passed : List BoxRecord) (why : ℕ) → 0 < why → done passed why ≡ frames passed (last_frame passed - 1) ++ (refuse why (length passed + 1) ∷ [])
unfolding done
done-some passed why h = let z : why ≡ 0 → ⊥ = λ q. omega arith in rw (ne_eqb why 0 z)

why_is : (why rest : ℕ) → 0 < why → why_of why rest ≡ why
why_is why rest h = let z : why ≡ 0 → ⊥ = λ q. omega arith in rw (ne_eqb why 0 z)

log_is : (passed : List BoxRecord) (run : Run) → Fed passed run → run.log ≡ frames passed (last_frame passed - 1)
log_is passed run w = w.log ∙ ap (λ (f : ℕ). frames passed (f - 1)) w.frame

-- ---- the whole list

-- at the end of the input
ends : (passed : List BoxRecord) (run : Run) (rest : ℕ) → Fed passed run → finish run rest ≡ done passed (why_of 0 rest)
unfolding finish closed
ends passed run rest w =
    ap (λ (g : Bool). cond g (run.log ++ told_at_end run.state run.boxes (closed (nth_after run.state.records) rest)) run.log) w.going ∙ by_cases (ltb 0 rest)
  where
    by_cases : (b : Bool) → run.log ++ told_at_end run.state run.boxes (cond b (Err (fault RecordIncomplete (nth_after run.state.records))) (Ok tt)) ≡ done passed (cond b 41 0)
    by_cases true =
        ap (λ (es : List Event). es ++ (refuse 41 (nth_after run.state.records) ∷ [])) (log_is passed run w)
        ∙ ap (λ (n : ℕ). frames passed (last_frame passed - 1) ++ (refuse 41 n ∷ [])) (nth_is passed run w)
        ∙ sym (done-some passed 41 (omega arith))
    by_cases false =
        open_worked passed run.state run.boxes run.log w.log w.boxes w.first
        ∙ ap (frames passed) w.frame
        ∙ sym (done_all passed)

abbrev done_of : Passing → ℕ → List Event
done_of p rest = done p.passed (why_of p.refusal rest)

stop-ends : (log : List Event) (state : OpenFrame) (boxes : List BoxRecord) (rest : ℕ) → finish (run_with log false state boxes) rest ≡ log
unfolding finish
stop-ends log state boxes rest = refl

one_more : (r : BoxRecord) (rs : List BoxRecord) (rest : ℕ) (passed : List BoxRecord) (run : Run) → Fed passed run
    → Fares passed run r (judged run.state (nth_after run.state.records) r.frame)
    → ((then : Run) → Fed (passed ++ (r ∷ [])) then → finish (foldl feed then rs) rest ≡ done_of (passing (passed ++ (r ∷ [])) rs) rest)
    → finish (foldl feed (feed run r) rs) rest ≡ done_of (passing passed (r ∷ rs)) rest
one_more r rs rest passed run w (passes e f) ih =
    ap (λ (x : Run). finish (foldl feed x rs) rest) (feed-going run r w.going)
    ∙ ih (follow run r (judged run.state (nth_after run.state.records) r.frame)) f
    ∙ ap (λ (p : Passing). done_of p rest) (sym (passing-on passed r rs e))
one_more r rs rest passed run w (refuses why n e h) ih =
    ap (λ (x : Run). finish (foldl feed x rs) rest) (feed-going run r w.going ∙ ap (follow run r) n)
    ∙ ap (λ (x : Run). finish x rest) (feed-stopped rs (follow run r (Err (fault why (length passed + 1)))) refl)
    ∙ stop-ends (run.log ++ (refuse (number why) (length passed + 1) ∷ [])) run.state run.boxes rest
    ∙ ap (λ (es : List Event). es ++ (refuse (number why) (length passed + 1) ∷ [])) (log_is passed run w)
    ∙ sym (done-some passed (number why) h)
    ∙ ap (done passed) (sym (why_is (number why) rest h))
    ∙ ap (λ (p : Passing). done_of p rest) (sym (passing_off passed r rs (number why) e h))

from-here : (rs : List BoxRecord) (rest : ℕ) (passed : List BoxRecord) (run : Run) → Fed passed run → every wide rs ≡ true → finish (foldl feed run rs) rest ≡ done_of (passing passed rs) rest
unfolding passing every
from-here [] rest passed run w h = ends passed run rest w
from-here (r ∷ rs) rest passed run w h =
    one_more r rs rest passed run w
    (fares passed run r w (ltb-true r.frame frame_numbers (and_left (wide r) (every wide rs) h)))
    (λ (then : Run) v. from-here rs rest (passed ++ (r ∷ [])) then v (and_right (wide r) (every wide rs) h))

-- fed with one record after another, the rules do what the definition says of the whole list
pub feeding : (rs : List BoxRecord) (rest : ℕ) → every wide rs ≡ true → fed rs rest ≡ events rs rest
unfolding fed events
feeding rs rest h = from-here rs rest [] begin fed-begin h

-- ---- a prefix: what was done is not done otherwise by what comes behind it

-- where a run is going, a record adds what it is judged to
pub feed-log : (run : Run) (r : BoxRecord) → run.going ≡ true → (feed run r).log ≡ run.log ++ told run.state run.boxes (judged run.state (nth_after run.state.records) r.frame)
feed-log run r e = ap (λ (x : Run). x.log) (feed-going run r e)

pub feed-more : (rs : List BoxRecord) (r : BoxRecord) → foldl feed begin (rs ++ (r ∷ [])) ≡ feed (foldl feed begin rs) r
feed-more rs r = foldl-append feed begin rs (r ∷ [])

module _ {S : Type 0} (update : S → List BoxRecord → Frame S) where
  pub printing-more : (state : S) (xs ys : List Event) → printing update state (xs ++ ys) ≡ foldl (prints update) (printing update state xs) ys
  unfolding printing
  printing-more state xs ys = foldl-append (prints update) (printed_with [] true state) xs ys

  -- once something is refused, nothing more is printed
  pub printing-stopped : (es : List Event) (p : Printed S) → p.going ≡ false → foldl (prints update) p es ≡ p
  unfolding prints
  printing-stopped [] p e = refl
  printing-stopped (v ∷ es) p e = let s : prints update p v ≡ p = rw e in ap (λ (q : Printed S). foldl (prints update) q es) s ∙ printing-stopped es p e

  -- what is printed, by the rules
  pub trackbox-fed : (state : S) (bytes : List ℕ) → AreBytes bytes → (printing update state (fed (box_records bytes) (length bytes % box_bytes))).text ≡ trackbox update state bytes
  unfolding trackbox
  trackbox-fed state bytes h = ap (λ (es : List Event). (printing update state es).text) (feeding (box_records bytes) (length bytes % box_bytes) (wide-records bytes h))

-- ---- all of them

pub laws : Laws
laws = record {
  feeding = feeding;
  trackbox-fed = trackbox-fed;
  sound-start = sound-start;
  goes = goes;
  few-records = few-records;
  exact = exact;
  frame-records = frame-records;
}
