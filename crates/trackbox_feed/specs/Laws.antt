-- What is printed. Records are handed to `take` one after the other, each until it is taken, and then the end until it has ended, whatever scratch memory each call is lent.
-- THE THEOREM is PrintedIs, which `printed-is` of proofs/Theorem.antt proves.
use Rattle.std.specs.Prelude.{◌≡◌, List, [], ◌∷◌, ◌++◌, ℕ, zero, suc, ◌*◌, ◌%◌, ◌≤◌, min, max, length, take, Float}
use Rattle.records.specs.declared.box_record.BoxRecord.{BoxRecord}
use Rattle.records.specs.BoxRecord.{box_bytes}
use Rattle.records_line.specs.Line.{line_bytes}
use Rattle.records.specs.Field.{AreBytes}
use Rattle.boost_tracker_verdict.specs.Boxes.{Boxes}
use Rattle.trackbox_stream.specs.Stream.{box_records}
use Rattle.trackbox_feed.specs.declared.feed.Feed.{Feed}
use Rattle.trackbox_feed.specs.declared.feed.Fed.{Fed}
use Rattle.trackbox_feed.specs.declared.feed.Fed.TheVariants.{Taken, Again, Ended, Short}
use Rattle.trackbox_feed.specs.Trackbox.{lent_boxes, lent_box_labels, lent_output, lent_doubles, lent_singles, begin, trackbox}
use Rattle.trackbox_feed.specs.Feed.{Lent, lent_with, start, Call, taken, finished}

-- ---- the calls

-- what lies in lent memory from call to call
pub record Memory : Type 0 where
  pub floats : List Float
  pub counters : List ℕ
  pub labels : List ℕ
  -- the open frame's
  pub boxes : Boxes

-- what else a call is lent, whatever is in it
pub record Scratch : Type 0 where
  pub output : List ℕ
  pub doubles : List Float
  pub singles : List Float
  pub text : List ℕ

-- as much as a frame of a held tracks and b boxes works with: n × n, n the larger of both
abbrev pub square : ℕ → ℕ → ℕ
square a b = max a b * max a b

-- n are as good as `most` where so many are needed: they are enough, or `most` are not
pub record Serves (need most n : ℕ) : Type 0 where
  pub enough : min need most ≤ n
  pub bound : n ≤ most

-- as much as trackbox lends; for work as much of that as the open frame needs
pub record Sized (feed : Feed) (s : Scratch) : Type 0 where
  pub output : length s.output ≡ lent_output
  pub doubles : Serves (square feed.table.count feed.opened.boxes) lent_doubles (length s.doubles)
  pub singles : Serves (4 * square feed.table.count feed.opened.boxes) lent_singles (length s.singles)
  -- the lines of 64 tracks, and one more
  pub text : 65 * line_bytes ≤ length s.text

abbrev pub lent_of : Memory → Scratch → Lent
lent_of m s = lent_with m.floats m.counters m.labels s.output s.doubles s.singles s.text

abbrev pub memory_of : Lent → Boxes → Memory
memory_of l boxes = record { floats = l.memory.table.floats; counters = l.memory.table.counters; labels = l.memory.table.labels; boxes = boxes }

pub record Lends (feed : Feed) (Then : Scratch → Type 0) : Type 0 where
  pub scratch : Scratch
  pub sized : Sized feed scratch
  pub then : Then scratch

-- out starts with a text, and the rest of it is so
pub record Follows (text out : List ℕ) (Rest : List ℕ → Type 0) : Type 0 where
  pub rest : List ℕ
  pub split : out ≡ text ++ rest
  pub follows : Rest rest

-- what is printed from a call on: its text, and then what is printed where the record is taken, or where it is handed on again
abbrev pub Said : Fed → Lent → Boxes → List ℕ → (Feed → Memory → List ℕ → Type 0) → (Feed → Memory → List ℕ → Type 0) → Type 0
Said (Taken feed n) l boxes out Took More = Follows (take n l.text) out (Took feed (memory_of l boxes))
Said (Again feed n) l boxes out Took More = Follows (take n l.text) out (More feed (memory_of l boxes))
Said (Ended n) l boxes out Took More = out ≡ take n l.text
Said Short l boxes out Took More = ⊥

abbrev pub SaidOf : Call → List ℕ → (Feed → Memory → List ℕ → Type 0) → (Feed → Memory → List ℕ → Type 0) → Type 0
SaidOf c out Took More = Said c.answer c.lent c.boxes out Took More

-- so many calls, for these records and `rest` bytes behind them, print `out`
unfoldable pub Prints : ℕ → List BoxRecord → ℕ → Feed → Memory → List ℕ → Type 0
Prints zero rs rest feed m out = ⊥
Prints (suc n) [] rest feed m out = Lends feed (λ (s : Scratch). SaidOf (finished feed rest (lent_of m s) m.boxes) out (λ (f : Feed) (m : Memory) (o : List ℕ). ⊥) (Prints n [] rest))
Prints (suc n) (r ∷ rs) rest feed m out = Lends feed (λ (s : Scratch). SaidOf (taken feed r (lent_of m s) m.boxes) out (Prints n rs rest) (Prints n (r ∷ rs) rest))

-- ---- the theorem

-- an empty table, and room for 64 boxes, whatever is in it
abbrev pub memory : Boxes → Memory
memory boxes = record { floats = begin.table.floats; counters = begin.table.counters; labels = begin.table.labels; boxes = boxes }

-- the texts of all calls together are what `trackbox` says of the whole input
abbrev pub PrintedIs : Type 0
PrintedIs = (bytes : List ℕ) (boxes : Boxes) (n : ℕ) (out : List ℕ) → AreBytes bytes → length boxes.values ≡ lent_boxes → length boxes.labels ≡ lent_box_labels
    → Prints n (box_records bytes) (length bytes % box_bytes) start (memory boxes) out → out ≡ trackbox bytes
