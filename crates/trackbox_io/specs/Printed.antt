-- What a run prints. Along is what holds between two turns: `written` is what was handed to the output whole, `before` and `held` are the bytes that were read.
-- Once the run has ended, `written` and the text that waits are what trackbox says of the bytes that were read (`done`). Until then, and where a call failed, they are a prefix of what it says of
-- every input that starts with those bytes (`prefix`). What C read and wrote is not in it: `held` is what the buffer has after a read, `written` the texts of the writes that succeeded.
-- THE THEOREMS are Printed, which `printed` of proofs/Theorem.antt proves.
use Rattle.std.specs.Prelude.{◌≡◌, true, false, ◌||◌, List, [], ◌++◌, ℕ, ◌+◌, ◌/◌, ◌%◌, ◌≤◌, length, take, drop}
use Rattle.records.specs.declared.box_record.BoxRecord.{BoxRecord}
use Rattle.records.specs.BoxRecord.{box_bytes}
use Rattle.records.specs.Field.{AreBytes}
use Rattle.boost_tracker_verdict.specs.Boxes.{Boxes}
use Rattle.trackbox_stream.specs.Stream.{box_records}
use Rattle.trackbox_feed.specs.Trackbox.{lent_boxes, lent_box_labels, trackbox}
use Rattle.trackbox_feed.specs.Feed as calls
use Rattle.trackbox_feed.specs.Laws.{Memory, Prints, memory}
use Rattle.program_io.specs.Prefix.{Prefix}
use Rattle.trackbox_progress.specs.declared.progress.Progress.{Progress}
use Rattle.trackbox_progress.specs.Progress.{start}
use Rattle.trackbox_io.specs.Turn.{Arrays, boxes_of, Sizes, Stands, Turned}
use Rattle.trackbox_io.specs.Laws.{waiting}

-- ---- between two turns

abbrev pub memory_in : Arrays → Memory
memory_in a = record { floats = a.floats; counters = a.counters; labels = a.labels; boxes = boxes_of a }

-- how the input may go on behind the buffer: a buffer that is not full is the last
pub record Onward (p : Progress) (tail : List BoxRecord) (rest : ℕ) : Type 0 where
  pub none : p.more ≡ false → tail ≡ []
  pub rest-is : p.more ≡ false → rest ≡ p.got % box_bytes

-- whatever is printed from here on comes behind `said`, of all records
abbrev pub Goes : Progress → Memory → List ℕ → List ℕ → List ℕ → ℕ → Boxes → Type 0
Goes p m held before said count base =
    (n : ℕ) (tail : List BoxRecord) (rest : ℕ) (out : List ℕ) → Onward p tail rest → Prints n (drop p.next (box_records held) ++ tail) rest p.feed m out
    → Prints (count + n) (box_records before ++ (box_records held ++ tail)) rest calls.start (memory base) (said ++ out)

pub record Along (p : Progress) (a : Arrays) : Type 0 where
  -- the bytes of the buffers before this one and of this one, and the texts that were handed to the output whole
  pub before : List ℕ
  pub held : List ℕ
  pub written : List ℕ
  -- how many calls were made
  pub count : ℕ
  pub base : Boxes
  pub long : length base.values ≡ lent_boxes
  pub long-labels : length base.labels ≡ lent_box_labels
  pub whole : length before % box_bytes ≡ 0
  pub next-in : p.next ≤ p.got / box_bytes
  pub full : p.more ≡ true → p.got % box_bytes ≡ 0
  pub is_held : p.going ≡ true → held ≡ take p.got a.input
  pub many : length held ≡ p.got
  pub goes : (p.going || p.failed) ≡ true → Goes p (memory_in a) held before (written ++ waiting p a) count base
  pub done : (p.going || p.failed) ≡ false → AreBytes (before ++ held) → written ++ waiting p a ≡ trackbox (before ++ held)

-- ---- the theorems

pub record Printed : Type 0 where
  -- it holds before the first turn, and each turn of a run that goes on keeps it
  pub start_along : (bytes : ℕ) (a : Arrays) → memory_in a ≡ memory (boxes_of a) → length a.boxes ≡ lent_boxes → length a.box_labels ≡ lent_box_labels → Along (start bytes) a
  pub turn_along : (p r : Progress) (a b : Arrays) → Sizes a → Sizes b → Stands p → p.going ≡ true → (t : Turned p r a b) → Stands t.ready → Along p a → Along r b
  -- what was handed to the output, with what waits, is a prefix of what trackbox prints of every input that starts with the bytes that were read; where they are all there are, of what it prints of them
  pub prefix : (p : Progress) (a : Arrays) (l : Along p a) → (p.going || p.failed) ≡ true → (more : List ℕ) → (p.more ≡ false → more ≡ []) → AreBytes ((l.before ++ l.held) ++ more)
      → Prefix (l.written ++ waiting p a) (trackbox ((l.before ++ l.held) ++ more))
