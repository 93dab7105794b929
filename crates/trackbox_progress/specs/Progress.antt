-- Where a run of trackbox stands between two turns of its loop.
use Rattle.std.specs.Prelude.{Bool, true, false, cond, ◌&&◌, List, ℕ, ◌+◌, ◌*◌, ◌/◌, ◌%◌, leb, ltb}
use Rattle.records.specs.Field.{part}
use Rattle.records.specs.BoxRecord.{box_bytes, box_of}
use Rattle.trackbox_feed.specs.declared.feed.Item.{Item}
use Rattle.trackbox_feed.specs.declared.feed.Item.TheVariants.{Record, End}
use Rattle.trackbox_feed.specs.Trackbox.{lent_doubles, lent_singles}
use Rattle.trackbox_feed.specs.Feed as calls
use Rattle.trackbox_feed.specs.Laws.{Serves, square}
use Rattle.trackbox_progress.specs.declared.progress.Progress.{Progress}

abbrev pub start : ℕ → Progress
start bytes = record { feed = calls.start; left = bytes; more = true; got = 0; next = 0; used = 0; going = true; failed = false }

abbrev pub spent : Progress → Bool
spent p = leb (p.got / box_bytes) p.next && p.more

-- a call failed: nothing is handed on or written any more
abbrev pub stopped : Progress → Progress
stopped p = record { feed = p.feed; left = p.left; more = p.more; got = p.got; next = p.next; used = p.used; going = false; failed = true }

abbrev pub cleared : Progress → Progress
cleared p = record { feed = p.feed; left = p.left; more = p.more; got = p.got; next = p.next; used = 0; going = p.going; failed = p.failed }

-- what waited was written out, or a write failed
abbrev pub emptied : Progress → Bool → Progress
emptied p written = cond written (cleared p) (stopped p)

abbrev pub later : ℕ → ℕ → ℕ
later next got = cond (ltb next (got / box_bytes)) (next + 1) next

-- record `next` of the first `got` bytes; behind the last whole one the end, with the rest's length
unfoldable pub item_at : ℕ → ℕ → List ℕ → Item
item_at next got input = cond (leb (got / box_bytes) next) (End (got % box_bytes)) (Record (box_of (part (next * box_bytes) box_bytes input)))

-- how many f64 a frame is lent: of f32 it is four times as many
pub record Needed (held boxes n : ℕ) : Type 0 where
  pub doubles : Serves (square held boxes) lent_doubles n
  pub singles : Serves (4 * square held boxes) lent_singles (4 * n)
