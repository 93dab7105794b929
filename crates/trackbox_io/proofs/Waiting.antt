-- `laws`: what specs/Laws.antt states of a turn holds. Assumes nothing.
use mathlib.Core.Path.{◌≡◌, refl, sym, ap, ◌∙◌}
use mathlib.Core.Bool.{Bool, true, false, cond, ◌&&◌, ◌||◌, true≢false}
use mathlib.Core.List.{List, ◌++◌, append-nil}
use Prim.Native.Nat.{ℕ, ◌+◌, ◌≤◌, min}
use native.Mathlib.Nat.{lt_of_not-le}
use native.Mathlib.Decide.{dec_le}
use native.Mathlib.Omega.{arith}
use lib.ListN.{length, take, drop}
use lib.Seq.{take_all, take-add, take_at, drop_at, length-take-le}
use Rattle.laws.specs.Tests.{and_left, and_right}
use Rattle.trackbox_feed.specs.declared.feed.Fed.{Fed}
use Rattle.trackbox_feed.specs.declared.feed.Fed.TheVariants.{Taken, Again, Ended, Short}
use Rattle.std.proofs.Common.{None}
use Rattle.trackbox_progress.specs.declared.progress.Progress.{Progress}
use Rattle.trackbox_progress.specs.Progress.{spent, stopped, emptied}
use Rattle.trackbox_io.specs.Turn.{crowded, refilled, answered, Arrays, Empties, Fills, Hands, Turned}
use Rattle.trackbox_io.specs.Laws.{waiting, said, Laws}

-- ---- what waits

take_min : (n : ℕ) (l : List ℕ) → take (min n (length l)) l ≡ take n l
take_min n l = by_length (dec_le n (length l))
  where
    by_length : Dec (n ≤ length l) → take (min n (length l)) l ≡ take n l
    by_length (yes h) = let e : min n (length l) ≡ n = omega (arith, h) in ap (λ (k : ℕ). take k l) e
    by_length (no h) =
        let past = lt_of_not-le h in
        let e : min n (length l) ≡ length l = omega (arith, past) in
        ap (λ (k : ℕ). take k l) e ∙ take_all (length l) l (omega arith) ∙ sym (take_all n l (omega (arith, past)))

module _ (p : Progress) (l text whole : List ℕ) (in-text : p.used ≤ length l) (e : whole ≡ take p.used l ++ text) where
  front : length (take p.used l) ≡ p.used
  front = length-take-le p.used l in-text

  stays : take p.used whole ≡ take p.used l
  stays = ap (take p.used) e ∙ take_at (take p.used l) text p.used front

  grown_by : (n size : ℕ) → size ≡ length whole → take (min (p.used + n) size) whole ≡ take p.used l ++ take n text
  grown_by n size z =
      ap (λ (k : ℕ). take (min (p.used + n) k) whole) z
      ∙ take_min (p.used + n) whole
      ∙ take-add p.used n whole
      ∙ ap (λ (x : List ℕ). x ++ take n (drop p.used whole)) stays
      ∙ ap (λ (x : List ℕ). take p.used l ++ take n x) (ap (drop p.used) e ∙ drop_at (take p.used l) text p.used front)

  grown : (size : ℕ) → size ≡ length whole → (x : Fed) → take (answered p size x).used whole ≡ take p.used l ++ said x text
  grown size z (Taken feed n) = grown_by n size z
  grown size z (Again feed n) = grown_by n size z
  grown size z (Ended n) = grown_by n size z
  grown size z Short = stays ∙ sym (append-nil (take p.used l))

-- what waits grows by exactly the call's text
pub waiting_grows : (p r : Progress) (a b : Arrays) (h : Hands p r a b) → p.used ≤ length a.text → length a.text ≡ length b.text → waiting r b ≡ waiting p a ++ said h.answer h.text
waiting_grows p r a b h in-text z =
    ap (λ (q : Progress). take q.used b.text) h.so
    ∙ grown p a.text h.text b.text in-text h.behind (length a.text) z h.answer

-- ---- a read

-- nothing waits while the input is read on
pub none_waits : (p r : Progress) (size : ℕ) → Empties p r size → (r.going && spent r) ≡ true → r.used ≡ 0
none_waits p r size e h = by_due (crowded p.used size || spent p) e.so refl
  where
    by_written : (w : Bool) → r ≡ emptied p w → r.used ≡ 0
    by_written true q = ap (λ (x : Progress). x.used) q
    by_written false q = absurd (true≢false (sym (and_left r.going (spent r) h) ∙ ap (λ (x : Progress). x.going) q))

    or_right : (x y : Bool) → y ≡ true → (x || y) ≡ true
    or_right true y q = refl
    or_right false y q = q

    by_due : (b : Bool) → r ≡ cond b (emptied p e.written) p → (crowded p.used size || spent p) ≡ b → r.used ≡ 0
    by_due true q d = by_written e.written q
    by_due false q d =
        absurd
        (true≢false
        (sym (or_right (crowded p.used size) (spent p) (ap (λ (x : Progress). spent x) (sym q) ∙ and_right r.going (spent r) h)) ∙ d))

-- ---- a failure

-- a run that has stopped reads no more
fills-none : (p r : Progress) (before after : List ℕ) → Fills p r before after → p.going ≡ false → r ≡ p
fills-none p r before after f g = f.so ∙ ap (λ (b : Bool). cond (b && spent p) (refilled p (length before) f.input) p) g

-- where a write failed, nothing is read and nothing handed on, and the run has stopped
pub write_fails : (p r : Progress) (a b : Arrays) (t : Turned p r a b) → (crowded p.used (length a.text) || spent p) ≡ true → t.empties.written ≡ false → r ≡ stopped p
write_fails p r a b t d w =
    let flushed : t.flushed ≡ stopped p = t.empties.so ∙ ap (λ (x : Bool). cond x (emptied p t.empties.written) p) d ∙ ap (emptied p) w in
    let halts : t.flushed.going ≡ false = ap (λ (x : Progress). x.going) flushed in
    let ready : t.ready ≡ t.flushed = fills-none t.flushed t.ready a.input b.input t.fills halts in
    (t.hands.stays (ap (λ (x : Progress). x.going) ready ∙ halts)).0 ∙ ready ∙ flushed

-- where a read failed, nothing is handed on, the end least of all, and the run has stopped
pub read_fails : (p r : Progress) (a b : Arrays) (t : Turned p r a b) → (t.flushed.going && spent t.flushed) ≡ true → t.fills.input ≡ None → r ≡ stopped t.flushed
read_fails p r a b t d i =
    let f : Progress = t.flushed in
    let ready : t.ready ≡ stopped f = t.fills.so ∙ ap (λ (x : Bool). cond x (refilled f (length a.input) t.fills.input) f) d ∙ ap (refilled f (length a.input)) i in
    (t.hands.stays (ap (λ (x : Progress). x.going) ready)).0 ∙ ready

-- ---- all of them

pub laws : (p r : Progress) (a b : Arrays) → Laws p r a b
laws p r a b = record {
  waiting_grows = waiting_grows p r a b;
  none_waits = none_waits p r;
  write_fails = write_fails p r a b;
  read_fails = read_fails p r a b;
}
