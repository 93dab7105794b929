-- The frame that is due is the one that trackbox works: where a frame of k boxes is due, a call of `take` works those boxes, over the table and with the state that the question is asked of.
-- `due_works` of proofs/DueLaws.antt says that it holds.
use Rattle.std.specs.Prelude.{◌≡◌, true, ℕ, length}
use Rattle.boost_tracker_verdict.specs.Boxes.{Boxes}
use Rattle.trackbox_feed.specs.declared.feed.Feed.{Feed}
use Rattle.trackbox_feed.specs.declared.feed.Item.{Item}
use Rattle.trackbox_feed.specs.Feed.{Lent, has_room, work, front, fed}
use Rattle.why_question.specs.Due.{frame_due, due}

abbrev pub DueWorks : Type 0
DueWorks =
    (feed : Feed) (i : Item) (n k : ℕ) (l : Lent) (boxes : Boxes) → has_room (length l.memory.output) (length l.text) ≡ true → due feed i ≡ frame_due n k
    → (fed feed i l boxes).lent ≡ (work feed.table feed.opened.first (front k boxes) l).lent
