-- One call of `take`: what it answers, and each cell of lent memory. A call works at most one frame, so that its text has an end that is known before.
-- A record of a later frame ends the open one. Empty frames between the two are worked by the calls that follow; they name the record that came after them, which is the open frame's first.
use Rattle.std.specs.Prelude.{Bool, cond, List, ℕ, ◌-◌, ◌*◌, ◌/◌, min, eqb, ltb, length, take, Float, ⊤, Result, Ok, Err}
use Rattle.laws.specs.Splice.{splice}
use Rattle.laws.specs.Laid.{rows}
use Rattle.records.specs.declared.box_record.BoxRecord.{BoxRecord}
use Rattle.records.specs.BoxRecord.{box_values}
use Rattle.records.specs.TrackRecord.{track_bytes}
use Rattle.records_line.specs.Line.{line, line_bytes, refused_line}
use Rattle.boost_tracker_verdict.specs.declared.refusal.Refusal.{Refusal}
use Rattle.boost_tracker_verdict.specs.declared.sound.State.{State}
use Rattle.boost_tracker_verdict.specs.Boxes.{Boxes, boxes_with}
use Rattle.boost_tracker_verdict.specs.Verdict.{number, where_accepted}
use Rattle.boost_tracker_definition.specs.Update.{Stages, state_after}
use Rattle.boost_tracker.specs.Frame.{Memory, memory_with, memory_after, worked, labels_of}
use Rattle.boost_tracker.specs.Frame as tracker
use Rattle.trackbox_stream.specs.declared.rules.OpenFrame.{OpenFrame}
use Rattle.trackbox_stream.specs.declared.rules.Next.{Next}
use Rattle.trackbox_stream.specs.declared.rules.Next.TheVariants as next
use Rattle.trackbox_stream.specs.declared.rules.Fault.{Fault}
use Rattle.trackbox_stream.specs.Rules.{nth_after, judged, closed}
use Rattle.trackbox_stream.specs.Rules as rules
use Rattle.trackbox_stream.specs.Boxes.{held_then, label_then}
use Rattle.trackbox_feed.specs.declared.frame.Worked.{Worked}
use Rattle.trackbox_feed.specs.declared.feed.Feed.{Feed}
use Rattle.trackbox_feed.specs.declared.feed.Item.{Item}
use Rattle.trackbox_feed.specs.declared.feed.Item.TheVariants as item
use Rattle.trackbox_feed.specs.declared.feed.Fed.{Fed}
use Rattle.trackbox_feed.specs.declared.feed.Fed.TheVariants.{Taken, Again, Ended, Short}
use Rattle.trackbox_feed.specs.Trackbox.{settings, records_of, begin}

-- ---- lent memory, but for the open frame's boxes and their labels

pub record Lent : Type 0 where
  -- the tracker's: the table, the records that a frame puts out, and what its work is done in
  pub memory : Memory
  pub text : List ℕ

abbrev pub lent_with : List Float → List ℕ → List ℕ → List ℕ → List Float → List Float → List ℕ → Lent
lent_with floats counters labels output doubles singles text = record { memory = memory_with floats counters labels output doubles singles; text = text }

-- a text at the front
abbrev pub printed : List ℕ → Lent → Lent
printed xs l = record { memory = l.memory; text = splice l.text 0 xs }

-- there is room for one line more than for records
abbrev pub has_room : ℕ → ℕ → Bool
has_room output text = ltb (output / track_bytes) (text / line_bytes)

-- ---- a frame

pub record Work : Type 0 where
  pub answer : Result Worked ℕ
  pub lent : Lent

-- a frame that was worked
abbrev pub done : State → ℕ → Result Worked ℕ
done table text = Ok (record { table = table; text = text })

abbrev pub work_with : Result Worked ℕ → Lent → Work
work_with answer lent = record { answer = answer; lent = lent }

-- the lines of a frame, by the labels of all trackers, or that it is turned down
abbrev pub says : Result ⊤ Refusal → ℕ → List ℕ → Stages → List ℕ
says (Ok _) nth all g = rows line (records_of all g)
says (Err why) nth all g = refused_line (number why) nth

abbrev pub answers : Result ⊤ Refusal → ℕ → List ℕ → Stages → Result Worked ℕ
answers (Ok v) nth all g = done (state_after g) (length (says (Ok _) nth all g))
answers (Err why) nth all g = Err (length (says (Err why) nth all g))

abbrev pub work_by : Result ⊤ Refusal → ℕ → List ℕ → Stages → Lent → Work
work_by v nth all g l =
    work_with (answers v nth all g) (record { memory = where_accepted v (memory_after settings all g l.memory) l.memory; text = splice l.text 0 (says v nth all g) })

abbrev pub verdict_of : State → Boxes → Lent → Result ⊤ Refusal
verdict_of state objects l = tracker.verdict_of settings state objects l.memory

-- a frame of these objects; where it is turned down it names record nth
unfoldable pub work : State → ℕ → Boxes → Lent → Work
work state nth objects l =
    let g : Stages = worked settings state objects l.memory in
    work_by (verdict_of state objects l) nth (labels_of state objects l.memory g) g l

-- ---- what is known between two calls

abbrev pub feed_with : OpenFrame → ℕ → State → Feed
feed_with opened empty table = record { opened = opened; empty = empty; table = table }

abbrev pub start : Feed
start = feed_with rules.start 0 begin.state

-- ---- a call

pub record Call : Type 0 where
  pub answer : Fed
  pub lent : Lent
  -- the open frame's
  pub boxes : Boxes

abbrev pub call_with : Fed → Lent → Boxes → Call
call_with answer lent boxes = record { answer = answer; lent = lent; boxes = boxes }

-- a box and its label stored in place k
abbrev pub stored_then : BoxRecord → ℕ → Boxes → Boxes
stored_then r k boxes = boxes_with (held_then r k boxes.values) (label_then r k boxes.labels)

-- the first k boxes, or as many as are lent
abbrev pub front : ℕ → Boxes → Boxes
front k boxes = boxes_with (take (min k (length boxes.values / box_values) * box_values) boxes.values) (take (min k (length boxes.labels)) boxes.labels)

-- a frame of the first k boxes
unfoldable pub work_front : Feed → ℕ → Boxes → Lent → Work
work_front feed k boxes l = work feed.table feed.opened.first (front k boxes) l

-- the open frame, if there is one
unfoldable pub work_open : Feed → Boxes → Lent → Work
work_open feed boxes l = cond (eqb feed.opened.frame 0) (work_with (done feed.table 0) l) (work_front feed feed.opened.boxes boxes l)

-- an empty frame was worked
abbrev pub again_then : Feed → Result Worked ℕ → Fed
again_then feed (Ok w) = Again (feed_with feed.opened (feed.empty - 1) w.table) w.text
again_then feed (Err n) = Ended n

-- the open frame was worked before a record of a later one
abbrev pub later_then : ℕ → OpenFrame → Result Worked ℕ → Fed
later_then empty opened (Ok w) = Taken (feed_with opened empty w.table) w.text
later_then empty opened (Err n) = Ended n

abbrev pub boxes_then : BoxRecord → Result Worked ℕ → Boxes → Boxes
boxes_then r (Ok w) boxes = stored_then r 0 boxes
boxes_then r (Err n) boxes = boxes

abbrev pub last_then : Result Worked ℕ → Fed
last_then (Ok w) = Ended w.text
last_then (Err n) = Ended n

abbrev pub refuses : ℕ → ℕ → Lent → Boxes → Call
refuses why nth l boxes = call_with (Ended (length (refused_line why nth))) (printed (refused_line why nth) l) boxes

abbrev pub later_call : Feed → BoxRecord → ℕ → OpenFrame → Lent → Boxes → Call
later_call feed r empty opened l boxes =
    let w : Work = work_open feed boxes l in
    call_with (later_then empty opened w.answer) w.lent (boxes_then r w.answer boxes)

abbrev pub next_then : Feed → BoxRecord → Result Next Fault → Lent → Boxes → Call
next_then feed r (Ok (next.Same opened)) l boxes = call_with (Taken (feed_with opened 0 feed.table) 0) l (stored_then r feed.opened.boxes boxes)
next_then feed r (Ok (next.Later empty opened)) l boxes = later_call feed r empty opened l boxes
next_then feed r (Err fault) l boxes = refuses (rules.number fault.why) fault.nth l boxes

abbrev pub end_then : Feed → Result ⊤ Fault → Lent → Boxes → Call
end_then feed (Ok _) l boxes = call_with (last_then (work_open feed boxes l).answer) (work_open feed boxes l).lent boxes
end_then feed (Err fault) l boxes = refuses (rules.number fault.why) fault.nth l boxes

-- an empty frame comes before everything else
abbrev pub call_then : Feed → Lent → Boxes → Call → Call
call_then feed l boxes call =
    cond (has_room (length l.memory.output) (length l.text))
    (cond (ltb 0 feed.empty) (call_with (again_then feed (work_front feed 0 boxes l).answer) (work_front feed 0 boxes l).lent boxes) call)
    (call_with Short l boxes)

-- a record is handed on
unfoldable pub taken : Feed → BoxRecord → Lent → Boxes → Call
taken feed r l boxes = call_then feed l boxes (next_then feed r (judged feed.opened (nth_after feed.opened.records) r.frame) l boxes)

-- the input has ended, with so many bytes behind the whole records
unfoldable pub finished : Feed → ℕ → Lent → Boxes → Call
finished feed rest l boxes = call_then feed l boxes (end_then feed (closed (nth_after feed.opened.records) rest) l boxes)

-- either of the two
abbrev pub fed : Feed → Item → Lent → Boxes → Call
fed feed (item.Record r) l boxes = taken feed r l boxes
fed feed (item.End rest) l boxes = finished feed rest l boxes
