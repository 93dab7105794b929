-- What a call works, answers and leaves is the definition's case of what it was handed. Assumes nothing.
use mathlib.Core.Path.{◌≡◌, refl, ap, subst, ◌∙◌}
use mathlib.Core.Bool.{Bool, true, false, cond}
use mathlib.Core.List.{List}
use Prim.Native.Nat.{ℕ, ◌*◌, ◌/◌, ◌≤◌, ◌<◌, min}
use native.Mathlib.Nat.{zero-add}
use lib.Dec.{eqb, ltb}
use lib.ListN.{length, take}
use lib.Ieee.{Float}
use borrow.Author.Tests.{lt-ltb, le-ltb}
use Rattle.std.specs.Bool.{⊤}
use Rattle.std.proofs.Common.{Option, Some, None, Result, Ok, Err}
use Rattle.records.specs.declared.box_record.BoxRecord.{BoxRecord}
use Rattle.records.specs.BoxRecord.{box_values}
use Rattle.records.specs.TrackRecord.{track_bytes}
use Rattle.records_line.specs.Line.{line_bytes, refused_line}
use Rattle.boost_tracker_verdict.specs.declared.sound.State.{State}
use Rattle.boost_tracker_verdict.specs.Boxes.{Boxes, boxes_with}
use Rattle.trackbox_stream.specs.declared.rules.Next.{Next}
use Rattle.trackbox_stream.specs.declared.rules.Next.TheVariants as next
use Rattle.trackbox_stream.specs.declared.rules.Fault.{Fault}
use Rattle.trackbox_stream.specs.Rules.{number, nth_after, judged, closed}
use Rattle.trackbox_feed.specs.declared.frame.Worked.{Worked}
use Rattle.trackbox_feed.specs.declared.feed.Feed.{Feed}
use Rattle.trackbox_feed.specs.declared.feed.Fed.{Fed}
use Rattle.trackbox_feed.specs.declared.feed.Fed.TheVariants.{Ended, Short}
use Rattle.trackbox_feed.specs.declared.feed.Item.{Item}
use Rattle.trackbox_feed.specs.declared.feed.Item.TheVariants as item
use Rattle.trackbox_feed.specs.declared.feed.Turn.{Turn}
use Rattle.trackbox_feed.specs.declared.feed.Turn.TheVariants as turn
use Rattle.trackbox_feed.specs.Feed.{Lent, lent_with, Work, done, work_with, work, Call, call_with, work_front, work_open, again_then, later_then, boxes_then, last_then, refuses, next_then, end_then, call_then, taken, finished, fed}
use Rattle.trackbox_feed.specs.Private.{Put, of_judged, of_closed, item_turn, turn_of, open_task, task_of, task_work, boxes_turn, answer_turn, turn_call}

-- boxes and their labels, each by its equation
pub both : {v w : List Float} {l k : List ℕ} → v ≡ w → l ≡ k → boxes_with v l ≡ boxes_with w k
both p q = rw (p, q)

-- ---- what is worked

module _ (state : State) (nth : ℕ) (boxes : Boxes) {t : Option ℕ} where
  pub frame-worked : (l : Lent) {k m n : ℕ} {w : Work} → t ≡ Some k → m ≡ min k (length boxes.values / box_values) → n ≡ min k (length boxes.labels)
      → w ≡ work state nth (boxes_with (take (m * box_values) boxes.values) (take n boxes.labels)) l → w ≡ task_work state nth t boxes l
  frame-worked l {k} {m} {n} e count labels q =
      rw e
      (q
      ∙ ap (λ (i : ℕ). work state nth (boxes_with (take (i * box_values) boxes.values) (take n boxes.labels)) l) count
      ∙ ap (λ (i : ℕ). work state nth (boxes_with (take (min k (length boxes.values / box_values) * box_values) boxes.values) (take i boxes.labels)) l) labels)

-- ---- what a call does where no empty frame comes before

module _ (feed : Feed) {i : Item} (none : feed.empty ≤ 0) where
  pub next_turn : {r : BoxRecord} {n : Result Next Fault} {t : Result Turn Fault} → i ≡ item.Record r → n ≡ judged feed.opened (nth_after feed.opened.records) r.frame → t ≡ of_judged r n → t ≡ turn_of feed i
  next_turn {r} e j q = rw (le-ltb 0 feed.empty none, e) (q ∙ ap (of_judged r) j)

  pub end_turn : {rest : ℕ} {n : Result ⊤ Fault} {t : Result Turn Fault} → i ≡ item.End rest → n ≡ closed (nth_after feed.opened.records) rest → t ≡ of_closed n → t ≡ turn_of feed i
  end_turn e j q = rw (le-ltb 0 feed.empty none, e) (q ∙ ap of_closed j)

-- ---- what a call is

module _ (feed : Feed) (boxes : Boxes) (l : Lent) where
  open_worked : (b : Bool) → task_work feed.table feed.opened.first (cond b None (Some feed.opened.boxes)) boxes l
      ≡ cond b (work_with (done feed.table 0) l) (work_front feed feed.opened.boxes boxes l)
  unfolding work_front
  open_worked true = refl
  open_worked false = refl

  -- the open frame, if there is one
  open_is : task_work feed.table feed.opened.first (open_task feed.opened) boxes l ≡ work_open feed boxes l
  unfolding work_open
  open_is = open_worked (eqb feed.opened.frame 0)

  next-is : (r : BoxRecord) (n : Result Next Fault) → turn_call feed (of_judged r n) l boxes ≡ next_then feed r n l boxes
  next-is r (Ok (next.Same opened)) = refl
  next-is r (Ok (next.Later empty opened)) = ap (λ (w : Work). call_with (later_then empty opened w.answer) w.lent (boxes_then r w.answer boxes)) open_is
  next-is r (Err fault) = refl

  ending_is : (e : Result ⊤ Fault) → turn_call feed (of_closed e) l boxes ≡ end_then feed e l boxes
  ending_is (Ok _) = ap (λ (w : Work). call_with (last_then w.answer) w.lent boxes) open_is
  ending_is (Err fault) = refl

  -- where no empty frame comes before
  abbrev item_call : Item → Call
  item_call (item.Record r) = next_then feed r (judged feed.opened (nth_after feed.opened.records) r.frame) l boxes
  item_call (item.End rest) = end_then feed (closed (nth_after feed.opened.records) rest) l boxes

  item_is : (i : Item) → turn_call feed (item_turn feed.opened i) l boxes ≡ item_call i
  item_is (item.Record r) = next-is r (judged feed.opened (nth_after feed.opened.records) r.frame)
  item_is (item.End rest) = ending_is (closed (nth_after feed.opened.records) rest)

  abbrev empty_call : Call
  empty_call = call_with (again_then feed (work_front feed 0 boxes l).answer) (work_front feed 0 boxes l).lent boxes

  empty-first : (b : Bool) (t : Result Turn Fault) → turn_call feed (cond b (Ok turn.Empty) t) l boxes ≡ cond b empty_call (turn_call feed t l boxes)
  unfolding work_front
  empty-first true t = refl
  empty-first false t = refl

  fed-is : (i : Item) → call_then feed l boxes (item_call i) ≡ fed feed i l boxes
  unfolding taken finished
  fed-is (item.Record r) = refl
  fed-is (item.End rest) = refl

  pub short-call : (i : Item) → length l.text / line_bytes ≤ length l.memory.output / track_bytes → call_with Short l boxes ≡ fed feed i l boxes
  short-call i h =
      let short : call_with Short l boxes ≡ call_then feed l boxes (item_call i) = rw (le-ltb (length l.memory.output / track_bytes) (length l.text / line_bytes) h) in
      short ∙ fed-is i

  -- a call by its turn
  by_turn : (i : Item) → length l.memory.output / track_bytes < length l.text / line_bytes → turn_call feed (turn_of feed i) l boxes ≡ fed feed i l boxes
  by_turn i room =
      let call : cond (ltb 0 feed.empty) empty_call (item_call i) ≡ call_then feed l boxes (item_call i) = rw (lt-ltb (length l.memory.output / track_bytes) (length l.text / line_bytes) room) in
      empty-first (ltb 0 feed.empty) (item_turn feed.opened i)
      ∙ ap (cond (ltb 0 feed.empty) empty_call) (item_is i)
      ∙ call
      ∙ fed-is i

  pub turn_call_lem : (i : Item) {t : Turn} {k : Option ℕ} {w : Result Worked ℕ} {l' : Lent} {a : Fed} {b : Boxes} → length l.memory.output / track_bytes < length l.text / line_bytes → Ok t ≡ turn_of feed i
      → k ≡ task_of feed.opened t → work_with w l' ≡ task_work feed.table feed.opened.first k boxes l → b ≡ boxes_turn feed.opened.boxes t w boxes → a ≡ answer_turn feed t w → call_with a l' b ≡ fed feed i l boxes
  turn_call_lem i {t} {k} {w} {l'} {a} {b} room told tasked worked held answered =
      let left : call_with a l' b ≡ call_with (answer_turn feed t w) l' (boxes_turn feed.opened.boxes t w boxes) = rw (answered, held) in
      let is : call_with a l' b ≡ turn_call feed (Ok t) l boxes =
      subst (λ (x : Work). call_with a l' b ≡ call_with (answer_turn feed t x.answer) x.lent (boxes_turn feed.opened.boxes t x.answer boxes))
      (worked ∙ ap (λ (k : Option ℕ). task_work feed.table feed.opened.first k boxes l) tasked)
      left in
      is ∙ ap (λ (t : Result Turn Fault). turn_call feed t l boxes) told ∙ by_turn i room

-- the stream is turned down
pub refused_call : (feed : Feed) (f : List Float) (c labels out : List ℕ) (w64 w32 : List Float) (text : List ℕ) (boxes : Boxes) (i : Item) {fault : Fault} {k n : ℕ} {text' : List ℕ}
    → length out / track_bytes < length text / line_bytes → Err fault ≡ turn_of feed i → k ≡ number fault.why → Put 0 (refused_line k fault.nth) text n text'
    → call_with (Ended n) (lent_with f c labels out w64 w32 text') boxes ≡ fed feed i (lent_with f c labels out w64 w32 text) boxes
refused_call feed f c labels out w64 w32 text boxes i {fault} {k} room told e p =
    let lent : Lent = lent_with f c labels out w64 w32 text in
    let left : call_with (Ended _) (lent_with f c labels out w64 w32 _) boxes ≡ refuses (number fault.why) fault.nth lent boxes = rw (p.cells, p.ends ∙ zero-add (length (refused_line k fault.nth)), e) in
    left ∙ ap (λ (t : Result Turn Fault). turn_call feed t lent boxes) told ∙ by_turn feed boxes lent i room
