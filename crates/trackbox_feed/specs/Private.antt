-- What the private functions hand one another. No public contract cites these.
use Rattle.std.specs.Prelude.{◌≡◌, cond, List, ℕ, ◌+◌, ◌*◌, eqb, ltb, length, Option, Some, None, ⊤, Result, Ok, Err}
use Rattle.laws.specs.Splice.{splice}
use Rattle.laws.specs.Tab.{tab}
use Rattle.laws.specs.Laid.{rows}
use Rattle.records.specs.declared.box_record.BoxRecord.{BoxRecord}
use Rattle.records.specs.declared.track_record.TrackRecord.{TrackRecord}
use Rattle.records.specs.Field.{part}
use Rattle.records.specs.TrackRecord.{track_bytes, track_of}
use Rattle.records_line.specs.Line.{line}
use Rattle.boost_tracker_verdict.specs.declared.sound.State.{State}
use Rattle.boost_tracker_verdict.specs.Boxes.{Boxes}
use Rattle.trackbox_stream.specs.declared.rules.OpenFrame.{OpenFrame}
use Rattle.trackbox_stream.specs.declared.rules.Next.{Next}
use Rattle.trackbox_stream.specs.declared.rules.Next.TheVariants as next
use Rattle.trackbox_stream.specs.declared.rules.Fault.{Fault}
use Rattle.trackbox_stream.specs.Rules.{number, nth_after, judged, closed}
use Rattle.trackbox_feed.specs.declared.frame.Worked.{Worked}
use Rattle.trackbox_feed.specs.declared.feed.Feed.{Feed}
use Rattle.trackbox_feed.specs.declared.feed.Fed.{Fed}
use Rattle.trackbox_feed.specs.declared.feed.Item.{Item}
use Rattle.trackbox_feed.specs.declared.feed.Item.TheVariants as item
use Rattle.trackbox_feed.specs.declared.feed.Turn.{Turn}
use Rattle.trackbox_feed.specs.declared.feed.Turn.TheVariants as turn
use Rattle.trackbox_feed.specs.Feed.{Lent, Work, done, work_with, work, Call, call_with, stored_then, front, again_then, later_then, boxes_then, last_then, refuses}

-- ---- lines

-- xs was written over l from `at` on, and ends where the next is written
pub record Put (at : ℕ) (xs l : List ℕ) (next : ℕ) (out : List ℕ) : Type 0 where
  pub ends : next ≡ at + length xs
  pub cells : out ≡ splice l at xs

-- track record k of bytes, and the lines of the first n
unfoldable pub read_at : List ℕ → ℕ → TrackRecord
read_at out k = track_of (part (k * track_bytes) track_bytes out)

unfoldable pub lines_in : List ℕ → ℕ → List ℕ
lines_in out n = rows line (tab (read_at out) n)

-- ---- a call: what it does, what is worked for that, and what follows

abbrev pub of_next : BoxRecord → Next → Turn
of_next r (next.Same opened) = turn.Same r opened
of_next r (next.Later empty opened) = turn.Later r empty opened

abbrev pub of_judged : BoxRecord → Result Next Fault → Result Turn Fault
of_judged r (Ok next) = Ok (of_next r next)
of_judged r (Err fault) = Err fault

abbrev pub of_closed : Result ⊤ Fault → Result Turn Fault
of_closed (Ok _) = Ok turn.Last
of_closed (Err fault) = Err fault

abbrev pub item_turn : OpenFrame → Item → Result Turn Fault
item_turn opened (item.Record r) = of_judged r (judged opened (nth_after opened.records) r.frame)
item_turn opened (item.End rest) = of_closed (closed (nth_after opened.records) rest)

abbrev pub turn_of : Feed → Item → Result Turn Fault
turn_of feed item = cond (ltb 0 feed.empty) (Ok turn.Empty) (item_turn feed.opened item)

abbrev pub open_task : OpenFrame → Option ℕ
open_task opened = cond (eqb opened.frame 0) None (Some opened.boxes)

abbrev pub task_of : OpenFrame → Turn → Option ℕ
task_of opened turn.Empty = Some 0
task_of opened (turn.Same r then) = None
task_of opened (turn.Later r empty then) = open_task opened
task_of opened turn.Last = open_task opened

abbrev pub task_work : State → ℕ → Option ℕ → Boxes → Lent → Work
task_work state nth None boxes l = work_with (done state 0) l
task_work state nth (Some k) boxes l = work state nth (front k boxes) l

-- the boxes, of which `held` were held
abbrev pub boxes_turn : ℕ → Turn → Result Worked ℕ → Boxes → Boxes
boxes_turn held turn.Empty worked boxes = boxes
boxes_turn held (turn.Same r opened) worked boxes = stored_then r held boxes
boxes_turn held (turn.Later r empty opened) worked boxes = boxes_then r worked boxes
boxes_turn held turn.Last worked boxes = boxes

abbrev pub answer_turn : Feed → Turn → Result Worked ℕ → Fed
answer_turn feed turn.Empty worked = again_then feed worked
answer_turn feed (turn.Same r opened) worked = later_then 0 opened worked
answer_turn feed (turn.Later r empty opened) worked = later_then empty opened worked
answer_turn feed turn.Last worked = last_then worked

abbrev pub turn_call : Feed → Result Turn Fault → Lent → Boxes → Call
turn_call feed (Err fault) l boxes = refuses (number fault.why) fault.nth l boxes
turn_call feed (Ok t) l boxes =
    let w : Work = task_work feed.table feed.opened.first (task_of feed.opened t) boxes l in
    call_with (answer_turn feed t w.answer) w.lent (boxes_turn feed.opened.boxes t w.answer boxes)
