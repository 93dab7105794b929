-- One turn of the loop: what waits is written out where the text has little room or the input is read on, the buffer is filled once its records are taken, and a record or the end is handed on.
-- Whether a write failed and what a read brought are C's: each contract names them, and says what follows.
use Rattle.std.specs.Prelude.{◌≡◌, Bool, true, false, cond, ◌&&◌, ◌||◌, List, ◌++◌, ℕ, ◌+◌, ◌-◌, ◌*◌, ◌/◌, ◌%◌, ◌≤◌, min, leb, ltb, length, take, drop, Float, Option, Some, None}
use Rattle.records.specs.BoxRecord.{box_bytes}
use Rattle.boost_tracker_verdict.specs.Boxes.{Boxes, boxes_with}
use Rattle.trackbox_feed.specs.declared.feed.Feed.{Feed}
use Rattle.trackbox_feed.specs.declared.feed.Fed.{Fed}
use Rattle.trackbox_feed.specs.declared.feed.Fed.TheVariants.{Taken, Again, Ended, Short}
use Rattle.trackbox_feed.specs.Trackbox.{lent_floats, lent_counters, lent_labels, lent_boxes, lent_box_labels, lent_output, lent_doubles, lent_singles}
use Rattle.trackbox_feed.specs.Feed.{lent_with, call_with, fed}
use Rattle.program_io.specs.Input.{Within}
use Rattle.trackbox_progress.specs.declared.progress.Progress.{Progress}
use Rattle.trackbox_progress.specs.Progress.{spent, stopped, emptied, later, Needed}
pub use Rattle.trackbox_progress.specs.Progress.{item_at}

-- ---- how much the buffers hold

-- 64 KiB of text, and the whole records that as many bytes have room for: so none lies across the end of the buffer
abbrev pub text_bytes : ℕ
text_bytes = 65536

abbrev pub input_bytes : ℕ
input_bytes = text_bytes / box_bytes * box_bytes

-- what the text has room for when a call is made
abbrev pub call_bytes : ℕ
call_bytes = 8192

-- ---- what is known between two turns

abbrev pub crowded : ℕ → ℕ → Bool
crowded used size = ltb (size - used) call_bytes

-- a buffer that is not full is the last
abbrev pub refilled : Progress → ℕ → Option ℕ → Progress
refilled p size (Some n) = record { feed = p.feed; left = p.left - n; more = leb size n; got = n; next = 0; used = p.used; going = p.going; failed = p.failed }
refilled p size None = stopped p

abbrev pub known : Progress → Feed → ℕ → ℕ → Bool → Progress
known p feed next used going = record { feed = feed; left = p.left; more = p.more; got = p.got; next = next; used = used; going = going; failed = false }

-- a record is handed on again until it is taken, and then comes the next; the call's text waits behind what waits already
abbrev pub answered : Progress → ℕ → Fed → Progress
answered p size (Taken feed n) = known p feed (later p.next p.got) (min (p.used + n) size) true
answered p size (Again feed n) = known p feed p.next (min (p.used + n) size) true
answered p size (Ended n) = known p p.feed p.next (min (p.used + n) size) false
answered p size Short = stopped p

-- ---- the arrays

pub record Arrays : Type 0 where
  pub input : List ℕ
  pub text : List ℕ
  pub floats : List Float
  pub counters : List ℕ
  pub labels : List ℕ
  pub boxes : List Float
  pub box_labels : List ℕ
  pub output : List ℕ
  pub doubles : List Float
  pub singles : List Float

abbrev pub arrays : List ℕ → List ℕ → List Float → List ℕ → List ℕ → List Float → List ℕ → List ℕ → List Float → List Float → Arrays
arrays input text floats counters labels boxes box_labels output doubles singles =
    record { input = input; text = text; floats = floats; counters = counters; labels = labels; boxes = boxes; box_labels = box_labels; output = output; doubles = doubles; singles = singles }

-- the open frame's
abbrev pub boxes_of : Arrays → Boxes
boxes_of a = boxes_with a.boxes a.box_labels

-- as trackbox has them
pub record Sizes (a : Arrays) : Type 0 where
  pub input : length a.input ≡ input_bytes
  pub text : length a.text ≡ text_bytes
  pub floats : length a.floats ≡ lent_floats
  pub counters : length a.counters ≡ lent_counters
  pub labels : length a.labels ≡ lent_labels
  pub boxes : length a.boxes ≡ lent_boxes
  pub box_labels : length a.box_labels ≡ lent_box_labels
  pub output : length a.output ≡ lent_output
  pub doubles : length a.doubles ≡ lent_doubles
  pub singles : length a.singles ≡ lent_singles

-- what waits lies in the text, and what was read in the buffer
pub record Stands (p : Progress) : Type 0 where
  pub used : p.used ≤ text_bytes
  pub got : p.got ≤ input_bytes

-- ---- the three steps of a turn

pub record Empties (p r : Progress) (size : ℕ) : Type 0 where
  -- every write succeeded
  pub written : Bool
  pub so : r ≡ cond (crowded p.used size || spent p) (emptied p written) p

pub record Fills (p r : Progress) (before after : List ℕ) : Type 0 where
  pub input : Option ℕ
  pub within : Within (length before) input
  pub so : r ≡ cond (p.going && spent p) (refilled p (length before) input) p
  -- a buffer whose records are not all taken stays
  pub same : (p.going && spent p) ≡ false → after ≡ before

-- one call of `take`
pub record Hands (p r : Progress) (a b : Arrays) : Type 0 where
  pub cells : ℕ
  pub needed : Needed p.feed.table.count p.feed.opened.boxes cells
  pub answer : Fed
  -- what the call leaves of the work slices and of the text that it was lent
  pub doubles : List Float
  pub singles : List Float
  pub text : List ℕ
  pub call : call_with answer (lent_with b.floats b.counters b.labels b.output doubles singles text) (boxes_of b)
      ≡ fed p.feed (item_at p.next p.got a.input)
      (lent_with a.floats a.counters a.labels a.output (take cells a.doubles) (take (4 * cells) a.singles) (drop p.used a.text)) (boxes_of a)
  -- it stands behind what waits
  pub behind : b.text ≡ take p.used a.text ++ text
  pub so : r ≡ answered p (length a.text) answer

-- a call is made where no call of C failed before
pub record Handed (p r : Progress) (a b : Arrays) : Type 0 where
  pub goes : p.going ≡ true → Hands p r a b
  pub stays : p.going ≡ false → (r ≡ p) × (b ≡ a)

-- ---- a turn

abbrev pub with_input : List ℕ → Arrays → Arrays
with_input input a = arrays input a.text a.floats a.counters a.labels a.boxes a.box_labels a.output a.doubles a.singles

pub record Turned (p r : Progress) (a b : Arrays) : Type 0 where
  pub flushed : Progress
  pub ready : Progress
  pub empties : Empties p flushed (length a.text)
  pub fills : Fills flushed ready a.input b.input
  pub hands : Handed ready r (with_input b.input a) b

-- ---- a run

-- no more is left than there was
abbrev pub Leaves : ℕ → Option ℕ → Type 0
Leaves bytes (Some left) = left ≤ bytes
Leaves bytes None = Unit {0}

-- that all is written is said only where no call failed
abbrev pub Ends : Progress → ℕ → Option ℕ → Type 0
Ends p bytes (Some left) = (p.failed ≡ false) × (left ≤ bytes)
Ends p bytes None = Unit {0}
