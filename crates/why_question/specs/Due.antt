-- The frame that a call of trackbox's `take` works, by the rules of its stream, and what is done with an item: the frame asked about is explained where it is due, and not worked.
use Rattle.std.specs.Prelude.{cond, ◌&&◌, ℕ, ◌-◌, eqb, ltb, Option, Some, None, ⊤, Result, Ok, Err}
use Rattle.trackbox_stream.specs.declared.rules.OpenFrame.{OpenFrame}
use Rattle.trackbox_stream.specs.declared.rules.Next.{Next}
use Rattle.trackbox_stream.specs.declared.rules.Next.TheVariants as next
use Rattle.trackbox_stream.specs.declared.rules.Fault.{Fault}
use Rattle.trackbox_stream.specs.Rules.{nth_after, judged, closed}
use Rattle.trackbox_feed.specs.declared.feed.Feed.{Feed}
use Rattle.trackbox_feed.specs.declared.feed.Item.{Item}
use Rattle.trackbox_feed.specs.declared.feed.Item.TheVariants as item
use Rattle.why_question.specs.declared.due.Due.{Due}
use Rattle.why_question.specs.declared.due.Move.{Move}
use Rattle.why_question.specs.declared.due.Move.TheVariants.{Explain, Over, Pass}

-- a frame of so many boxes
abbrev pub frame_due : ℕ → ℕ → Option Due
frame_due n k = Some (record { frame = n; boxes = k })

-- the open frame, if there is one
unfoldable pub due_open : OpenFrame → Option Due
due_open opened = cond (eqb opened.frame 0) None (frame_due opened.frame opened.boxes)

abbrev pub due_next : OpenFrame → Result Next Fault → Option Due
due_next opened (Ok (next.Same then)) = None
due_next opened (Ok (next.Later empty then)) = due_open opened
due_next opened (Err fault) = None

abbrev pub due_end : OpenFrame → Result ⊤ Fault → Option Due
due_end opened (Ok _) = due_open opened
due_end opened (Err fault) = None

abbrev pub due_item : OpenFrame → Item → Option Due
due_item opened (item.Record r) = due_next opened (judged opened (nth_after opened.records) r.frame)
due_item opened (item.End rest) = due_end opened (closed (nth_after opened.records) rest)

-- the empty frames before the open one come first
unfoldable pub due : Feed → Item → Option Due
due feed i = cond (ltb 0 feed.empty) (frame_due (feed.opened.frame - feed.empty) 0) (due_item feed.opened i)

-- the file ends cleanly behind the open frame, which is not the one asked about
abbrev pub onward : Feed → Item → Move
onward feed (item.Record r) = Pass
onward feed (item.End rest) = cond (eqb feed.empty 0 && eqb rest 0) Over Pass

abbrev pub decide_due : ℕ → Option Due → Move → Move
decide_due frame None then = then
decide_due frame (Some d) then = cond (eqb d.frame frame) (Explain d.boxes) then

abbrev pub decide : ℕ → Feed → Item → Move
decide frame feed i = decide_due frame (due feed i) (onward feed i)
