-- The frame that is due is the one that trackbox works. Assumes nothing.
use mathlib.Core.Path.{◌≡◌, ap}
use mathlib.Core.Bool.{Bool, true, false, cond}
use Prim.Native.Nat.{ℕ, ◌-◌}
use native.Mathlib.Omega.{arith}
use lib.Dec.{eqb, ltb}
use Rattle.boost_tracker_verdict.specs.Boxes.{Boxes}
use Rattle.records.specs.declared.box_record.BoxRecord.{BoxRecord}
use Rattle.trackbox_stream.specs.declared.rules.Next.{Next}
use Rattle.trackbox_stream.specs.declared.rules.Next.TheVariants as next
use Rattle.trackbox_stream.specs.declared.rules.Fault.{Fault}
use Rattle.std.specs.Bool.{⊤}
use Rattle.std.proofs.Common.{Option, Some, None, Result, Ok, Err}
use Rattle.trackbox_stream.specs.Rules.{nth_after, judged, closed}
use Rattle.trackbox_feed.specs.declared.feed.Feed.{Feed}
use Rattle.trackbox_feed.specs.declared.feed.Item.TheVariants as item
use Rattle.trackbox_feed.specs.Feed.{Lent, done, work_with, work, Call, call_with, front, work_front, work_open, again_then, next_then, end_then, taken, finished}
use Rattle.why_question.specs.declared.due.Due.{Due}
use Rattle.why_question.specs.Due.{frame_due, due_open, due_next, due_end, due}
use Rattle.why_question.specs.Laws.{DueWorks}

-- how many boxes the frame has
abbrev boxes_of : Option Due → ℕ
boxes_of None = 0
boxes_of (Some d) = d.boxes

none-due : (n k : ℕ) → None ≡ frame_due n k → ⊥
none-due n k q = cc

module _ (feed : Feed) (n k : ℕ) (l : Lent) (boxes : Boxes) where
  abbrev the_frame : Lent
  the_frame = (work feed.table feed.opened.first (front k boxes) l).lent

  front_works : (m : ℕ) → m ≡ k → (work_front feed m boxes l).lent ≡ the_frame
  unfolding work_front
  front_works m q = ap (λ (j : ℕ). (work feed.table feed.opened.first (front j boxes) l).lent) q

  open_works : due_open feed.opened ≡ frame_due n k → (work_open feed boxes l).lent ≡ the_frame
  unfolding due_open work_open
  open_works = by_cases (eqb feed.opened.frame 0)
    where
      by_cases : (v : Bool) → cond v None (frame_due feed.opened.frame feed.opened.boxes) ≡ frame_due n k
          → (cond v (work_with (done feed.table 0) l) (work_front feed feed.opened.boxes boxes l)).lent ≡ the_frame
      by_cases true q = absurd (none-due n k q)
      by_cases false q = front_works feed.opened.boxes (ap boxes_of q)

  next_works : (r : BoxRecord) (x : Result Next Fault) → due_next feed.opened x ≡ frame_due n k → (next_then feed r x l boxes).lent ≡ the_frame
  next_works r (Ok (next.Same then)) q = absurd (none-due n k q)
  next_works r (Ok (next.Later empty then)) q = open_works q
  next_works r (Err fault) q = absurd (none-due n k q)

  end_works : (x : Result ⊤ Fault) → due_end feed.opened x ≡ frame_due n k → (end_then feed x l boxes).lent ≡ the_frame
  end_works (Ok tt) q = open_works q
  end_works (Err fault) q = absurd (none-due n k q)

  -- an empty frame before the open one, or what follows
  call_works : (c : Call) (d : Option Due) (v : Bool) → (d ≡ frame_due n k → c.lent ≡ the_frame) → cond v (frame_due (feed.opened.frame - feed.empty) 0) d ≡ frame_due n k
      → (cond v (call_with (again_then feed (work_front feed 0 boxes l).answer) (work_front feed 0 boxes l).lent boxes) c).lent ≡ the_frame
  call_works c d true h q = front_works 0 (ap boxes_of q)
  call_works c d false h q = h q

pub due_works : DueWorks
unfolding due taken finished
due_works feed (item.Record r) n k l boxes room q =
    rw room (call_works feed n k l boxes _ _ (ltb 0 feed.empty) (next_works feed n k l boxes r (judged feed.opened (nth_after feed.opened.records) r.frame)) q)
due_works feed (item.End rest) n k l boxes room q =
    rw room (call_works feed n k l boxes _ _ (ltb 0 feed.empty) (end_works feed n k l boxes (closed (nth_after feed.opened.records) rest)) q)
