-- What a call of `take` can answer, what is printed from it on, and that something is printed of all records that may follow. Assumes nothing.
use mathlib.Core.Path.{◌≡◌, refl, sym, subst, ◌∙◌}
use mathlib.Core.Bool.{Bool, true, false, cond}
use mathlib.Core.List.{List, [], ◌∷◌, ◌++◌}
use Prim.Native.Nat.{ℕ, zero, suc, ◌-◌, ◌*◌, ◌/◌}
use native.Mathlib.Omega.{arith}
use lib.Dec.{ltb}
use lib.ListN.{length, take, replicate, length-replicate}
use lib.Ieee.{nan}
use borrow.Author.Tests.{lt-ltb, ltb-true}
use Rattle.records.specs.declared.box_record.BoxRecord.{BoxRecord}
use Rattle.records.specs.TrackRecord.{track_bytes}
use Rattle.records_line.specs.Line.{line_bytes}
use Rattle.boost_tracker_verdict.specs.Boxes.{Boxes}
use Rattle.trackbox_stream.specs.declared.rules.Next.{Next}
use Rattle.trackbox_stream.specs.declared.rules.Next.TheVariants as next
use Rattle.trackbox_stream.specs.declared.rules.Fault.{Fault}
use Rattle.std.specs.Bool.{⊤}
use Rattle.std.proofs.Common.{Result, Ok, Err}
use Rattle.trackbox_stream.specs.Rules.{nth_after, judged, closed}
use Rattle.trackbox_feed.specs.declared.frame.Worked.{Worked}
use Rattle.trackbox_feed.specs.declared.feed.Feed.{Feed}
use Rattle.trackbox_feed.specs.declared.feed.Fed.{Fed}
use Rattle.trackbox_feed.specs.declared.feed.Fed.TheVariants.{Taken, Again, Ended, Short}
use Rattle.trackbox_feed.specs.Trackbox.{lent_output, lent_doubles, lent_singles}
use Rattle.trackbox_feed.specs.Feed.{Lent, has_room, Call, call_with, work_front, work_open, again_then, later_then, last_then, next_then, end_then, call_then, taken, finished}
use Rattle.trackbox_feed.specs.Laws.{Memory, Scratch, Sized, lent_of, memory_of, SaidOf, Prints}

-- ---- what a call can answer

-- the end is never taken, no call is lent too short a text, and a call that is to be made again has worked one of the empty frames that come before
abbrev pub AtEnd : ℕ → Fed → Type 0
AtEnd empty (Taken feed n) = ⊥
AtEnd empty (Again feed n) = empty ≡ suc feed.empty
AtEnd empty (Ended n) = Unit {0}
AtEnd empty Short = ⊥

abbrev pub AtRecord : ℕ → Fed → Type 0
AtRecord empty (Taken feed n) = Unit {0}
AtRecord empty (Again feed n) = empty ≡ suc feed.empty
AtRecord empty (Ended n) = Unit {0}
AtRecord empty Short = ⊥

module _ (feed : Feed) (l : Lent) (boxes : Boxes) (room : has_room (length l.memory.output) (length l.text) ≡ true) where
  one_less : ltb 0 feed.empty ≡ true → feed.empty ≡ suc (feed.empty - 1)
  one_less e = let h = ltb-true 0 feed.empty e in omega (arith, h)

  again_ends : ltb 0 feed.empty ≡ true → (w : Result Worked ℕ) → AtEnd feed.empty (again_then feed w)
  again_ends e (Ok w) = one_less e
  again_ends e (Err n) = tt

  again_records : ltb 0 feed.empty ≡ true → (w : Result Worked ℕ) → AtRecord feed.empty (again_then feed w)
  again_records e (Ok w) = one_less e
  again_records e (Err n) = tt

  last-ends : (w : Result Worked ℕ) → AtEnd feed.empty (last_then w)
  last-ends (Ok w) = tt
  last-ends (Err n) = tt

  later-records : (empty : ℕ) (opened : _) (w : Result Worked ℕ) → AtRecord feed.empty (later_then empty opened w)
  later-records empty opened (Ok w) = tt
  later-records empty opened (Err n) = tt

  ending_ends : (e : Result ⊤ Fault) → AtEnd feed.empty (end_then feed e l boxes).answer
  ending_ends (Ok _) = last-ends (work_open feed boxes l).answer
  ending_ends (Err fault) = tt

  next-records : (r : BoxRecord) (n : Result Next Fault) → AtRecord feed.empty (next_then feed r n l boxes).answer
  next-records r (Ok (next.Same opened)) = tt
  next-records r (Ok (next.Later empty opened)) = later-records empty opened (work_open feed boxes l).answer
  next-records r (Err fault) = tt

  abbrev emptied-call : Call
  emptied-call = call_with (again_then feed (work_front feed 0 boxes l).answer) (work_front feed 0 boxes l).lent boxes

  by_room : (Kind : Fed → Type 0) (call : Call) → (ltb 0 feed.empty ≡ true → Kind emptied-call.answer) → Kind call.answer → Kind (call_then feed l boxes call).answer
  by_room Kind call e c = subst (λ (b : Bool). Kind (cond b (cond (ltb 0 feed.empty) emptied-call call) (call_with Short l boxes)).answer) (sym room) (by_empty (ltb 0 feed.empty) refl)
    where
      by_empty : (b : Bool) → ltb 0 feed.empty ≡ b → Kind (cond b emptied-call call).answer
      by_empty true q = e q
      by_empty false q = c

  pub finished-ends : (rest : ℕ) → AtEnd feed.empty (finished feed rest l boxes).answer
  unfolding finished
  finished-ends rest =
      by_room (AtEnd feed.empty) (end_then feed (closed (nth_after feed.opened.records) rest) l boxes) (λ e. again_ends e (work_front feed 0 boxes l).answer)
      (ending_ends (closed (nth_after feed.opened.records) rest))

  pub taken-records : (r : BoxRecord) → AtRecord feed.empty (taken feed r l boxes).answer
  unfolding taken
  taken-records r =
      by_room (AtRecord feed.empty) (next_then feed r (judged feed.opened (nth_after feed.opened.records) r.frame) l boxes) (λ e. again_records e (work_front feed 0 boxes l).answer)
      (next-records r (judged feed.opened (nth_after feed.opened.records) r.frame))

-- ---- a call before the others

module _ (n : ℕ) (rest : ℕ) (feed : Feed) (m : Memory) (s : Scratch) (z : Sized feed s) (out : List ℕ) {c : Call} where
  pub prints-record : (r : BoxRecord) (rs : List BoxRecord) → c ≡ taken feed r (lent_of m s) m.boxes → SaidOf c out (Prints n rs rest) (Prints n (r ∷ rs) rest) → Prints (suc n) (r ∷ rs) rest feed m out
  unfolding Prints
  prints-record r rs e x = record { scratch = s; sized = z; then = subst (λ (c : Call). SaidOf c out (Prints n rs rest) (Prints n (r ∷ rs) rest)) e x }

  pub prints-end : c ≡ finished feed rest (lent_of m s) m.boxes → SaidOf c out (λ (f : Feed) (m : Memory) (o : List ℕ). ⊥) (Prints n [] rest) → Prints (suc n) [] rest feed m out
  unfolding Prints
  prints-end e x = record { scratch = s; sized = z; then = subst (λ (c : Call). SaidOf c out (λ (f : Feed) (m : Memory) (o : List ℕ). ⊥) (Prints n [] rest)) e x }

-- ---- there is always something that is printed, of all records that may follow

pub record Some (rs : List BoxRecord) (rest : ℕ) (feed : Feed) (m : Memory) : Type 0 where
  pub calls_made : ℕ
  pub out : List ℕ
  pub prints : Prints calls_made rs rest feed m out

abbrev lending : Scratch
lending = record { output = replicate lent_output 0; doubles = replicate lent_doubles nan; singles = replicate lent_singles nan; text = replicate (65 * line_bytes) 0 }

lending-sized : (feed : Feed) → Sized feed lending
lending-sized feed =
    let d : length lending.doubles ≡ lent_doubles = length-replicate lent_doubles nan in
    let f : length lending.singles ≡ lent_singles = length-replicate lent_singles nan in
    let t : length lending.text ≡ 65 * line_bytes = length-replicate {A = ℕ} (65 * line_bytes) 0 in
    record {
      output = length-replicate {A = ℕ} lent_output 0;
      doubles = record { enough = omega (arith, d); bound = omega (arith, d) };
      singles = record { enough = omega (arith, f); bound = omega (arith, f) };
      text = omega (arith, t);
    }

lending-room : has_room (length lending.output) (length lending.text) ≡ true
lending-room =
    let o : length lending.output ≡ lent_output = length-replicate {A = ℕ} lent_output 0 in
    let t : length lending.text ≡ 65 * line_bytes = length-replicate {A = ℕ} (65 * line_bytes) 0 in
    lt-ltb (length lending.output / track_bytes) (length lending.text / line_bytes) (omega (arith, o, t))

never_suc : (n : ℕ) → 0 ≡ suc n → ⊥
never_suc n e = omega (arith, e)

same-pred : (m n : ℕ) → suc m ≡ suc n → m ≡ n
same-pred m n e = omega (arith, e)

module _ (m : Memory) (feed : Feed) where
  abbrev ends : ℕ → Call
  ends rest = finished feed rest (lent_of m lending) m.boxes

  abbrev takes : BoxRecord → Call
  takes r = taken feed r (lent_of m lending) m.boxes

  one_end : (rest : ℕ) → ((then : Feed) (m : Memory) → feed.empty ≡ suc then.empty → Some [] rest then m)
      → (x : Fed) (l : Lent) (boxes : Boxes) → call_with x l boxes ≡ ends rest → AtEnd feed.empty x → Some [] rest feed m
  one_end rest more (Taken then n) l boxes e never = absurd never
  one_end rest more (Again then n) l boxes e less =
      let next = more then (memory_of l boxes) less in
      let out : List ℕ = take n l.text ++ next.out in
      record {
        calls_made = suc next.calls_made;
        out = out;
        prints = prints-end next.calls_made rest feed m lending (lending-sized feed) out e (record { rest = next.out; split = refl; follows = next.prints });
      }
  one_end rest more (Ended n) l boxes e _ = record { calls_made = 1; out = take n l.text; prints = prints-end 0 rest feed m lending (lending-sized feed) (take n l.text) e refl }
  one_end rest more Short l boxes e never = absurd never

  one-record : (rest : ℕ) (r : BoxRecord) (rs : List BoxRecord) → ((then : Feed) (m : Memory) → Some rs rest then m) → ((then : Feed) (m : Memory) → feed.empty ≡ suc then.empty → Some (r ∷ rs) rest then m)
      → (x : Fed) (l : Lent) (boxes : Boxes) → call_with x l boxes ≡ takes r → AtRecord feed.empty x → Some (r ∷ rs) rest feed m
  one-record rest r rs took more (Taken then n) l boxes e _ =
      let next = took then (memory_of l boxes) in
      let out : List ℕ = take n l.text ++ next.out in
      record {
        calls_made = suc next.calls_made;
        out = out;
        prints = prints-record next.calls_made rest feed m lending (lending-sized feed) out r rs e (record { rest = next.out; split = refl; follows = next.prints });
      }
  one-record rest r rs took more (Again then n) l boxes e less =
      let next = more then (memory_of l boxes) less in
      let out : List ℕ = take n l.text ++ next.out in
      record {
        calls_made = suc next.calls_made;
        out = out;
        prints = prints-record next.calls_made rest feed m lending (lending-sized feed) out r rs e (record { rest = next.out; split = refl; follows = next.prints });
      }
  one-record rest r rs took more (Ended n) l boxes e _ = record { calls_made = 1; out = take n l.text; prints = prints-record 0 rest feed m lending (lending-sized feed) (take n l.text) r rs e refl }
  one-record rest r rs took more Short l boxes e never = absurd never

-- by the empty frames that come before
some_end : (rest k : ℕ) (feed : Feed) (m : Memory) → feed.empty ≡ k → Some [] rest feed m
some_end rest zero feed m e =
    one_end m feed rest (λ then m q. let z : ◌≡◌ {A = ℕ} 0 (suc then.empty) = sym e ∙ q in absurd (never_suc then.empty z))
    (ends m feed rest).answer (ends m feed rest).lent (ends m feed rest).boxes refl (finished-ends feed (lent_of m lending) m.boxes lending-room rest)
some_end rest (suc k) feed m e =
    one_end m feed rest (λ then m q. some_end rest k then m (same-pred then.empty k (sym q ∙ e)))
    (ends m feed rest).answer (ends m feed rest).lent (ends m feed rest).boxes refl (finished-ends feed (lent_of m lending) m.boxes lending-room rest)

some-record : (rest : ℕ) (r : BoxRecord) (rs : List BoxRecord) → ((then : Feed) (m : Memory) → Some rs rest then m) → (k : ℕ) (feed : Feed) (m : Memory) → feed.empty ≡ k → Some (r ∷ rs) rest feed m
some-record rest r rs took zero feed m e =
    one-record m feed rest r rs took (λ then m q. let z : ◌≡◌ {A = ℕ} 0 (suc then.empty) = sym e ∙ q in absurd (never_suc then.empty z))
    (takes m feed r).answer (takes m feed r).lent (takes m feed r).boxes refl (taken-records feed (lent_of m lending) m.boxes lending-room r)
some-record rest r rs took (suc k) feed m e =
    one-record m feed rest r rs took (λ then m q. some-record rest r rs took k then m (same-pred then.empty k (sym q ∙ e)))
    (takes m feed r).answer (takes m feed r).lent (takes m feed r).boxes refl (taken-records feed (lent_of m lending) m.boxes lending-room r)

pub some : (rs : List BoxRecord) (rest : ℕ) (feed : Feed) (m : Memory) → Some rs rest feed m
some [] rest feed m = some_end rest feed.empty feed m refl
some (r ∷ rs) rest feed m = some-record rest r rs (some rs rest) feed.empty feed m refl
