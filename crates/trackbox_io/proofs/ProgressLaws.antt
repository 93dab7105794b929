-- Each return of the functions on `Progress` is the definition's case. Assumes nothing.
use mathlib.Core.Path.{◌≡◌, sym, ap, ◌∙◌}
use mathlib.Core.Bool.{true, false}
use mathlib.Core.List.{List}
use Prim.Native.Nat.{ℕ, ◌+◌, ◌-◌, ◌*◌, ◌/◌, ◌%◌, ◌≤◌, ◌<◌, min}
use native.Mathlib.Omega.{arith}
use lib.Dec.{leb}
use lib.ListN.{length}
use borrow.Author.Tests.{lt-ltb, le-leb, lt-leb}
use Rattle.records.specs.declared.box_record.BoxRecord.{BoxRecord}
use Rattle.records.specs.Field.{part}
use Rattle.records.specs.BoxRecord.{box_bytes, box_of, box_at}
use Rattle.trackbox_feed.specs.declared.feed.Feed.{Feed}
use Rattle.trackbox_feed.specs.declared.feed.Item.{Item}
use Rattle.trackbox_feed.specs.declared.feed.Item.TheVariants.{Record, End}
use Rattle.trackbox_feed.specs.declared.feed.Fed.{Fed}
use Rattle.trackbox_feed.specs.declared.feed.Fed.TheVariants as fed
use Rattle.std.proofs.Common.{Option, Some, None}
use Rattle.trackbox_progress.specs.declared.progress.Progress.{Progress}
use Rattle.trackbox_progress.specs.Progress.{stopped, later}
use Rattle.trackbox_io.specs.Turn.{refilled, known, answered}

-- ---- what a read leaves

pub was_read : (p : Progress) (size : ℕ) {input : Option ℕ} {n left : ℕ} → input ≡ Some n → left ≡ p.left - n
    → record { feed = p.feed; left = left; more = leb size n; got = n; next = 0; used = p.used; going = p.going; failed = p.failed } ≡ refilled p size input
was_read p size e q = rw (e, q)

pub not_read : (p : Progress) (size : ℕ) {input : Option ℕ} {r : Progress} → input ≡ None → r ≡ stopped p → r ≡ refilled p size input
not_read p size e q = rw e q

-- ---- what an answer leaves

module _ (p : Progress) (size : ℕ) {a : Fed} {r : Progress} where
  pub taken-so : {n next : ℕ} {then : Feed} → a ≡ fed.Taken then n → next ≡ later p.next p.got → r ≡ known p then next (min (p.used + n) size) true → r ≡ answered p size a
  taken-so {n = n} {then = then} e l q = rw e (q ∙ ap (λ (k : ℕ). known p then k (min (p.used + n) size) true) l)

  pub again_so : {n : ℕ} {then : Feed} → a ≡ fed.Again then n → r ≡ known p then p.next (min (p.used + n) size) true → r ≡ answered p size a
  again_so e q = rw e q

  pub ended_so : {n : ℕ} → a ≡ fed.Ended n → r ≡ known p p.feed p.next (min (p.used + n) size) false → r ≡ answered p size a
  ended_so e q = rw e q

  pub short-so : a ≡ fed.Short → r ≡ stopped p → r ≡ answered p size a
  short-so e q = rw e q
