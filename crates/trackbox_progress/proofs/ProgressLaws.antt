-- Each return of the functions on `Progress` is the definition's case. Assumes nothing.
use mathlib.Core.Path.{◌≡◌, refl, sym, ap, ◌∙◌}
use mathlib.Core.Bool.{Bool, true, false, cond, true≢false}
use mathlib.Core.List.{List}
use Prim.Native.Nat.{ℕ, ◌+◌, ◌-◌, ◌*◌, ◌/◌, ◌%◌, ◌≤◌, ◌<◌, max}
use native.Mathlib.Nat.{mul-le-mul, lt_of_not-le}
use native.Mathlib.Decide.{dec_le}
use native.Mathlib.Omega.{arith}
use borrow.Author.Tests.{lt-ltb, le-ltb, le-leb, lt-leb}
use lib.Dec.{leb, ltb}
use lib.ListN.{length, take, drop}
use lib.Seq.{length-take-le}
use Rattle.std.proofs.Common.{Option, Some, None}
use Rattle.std.proofs.lemmas.List.{drop-take, take-take}
use Rattle.records.specs.declared.box_record.BoxRecord.{BoxRecord}
use Rattle.records.specs.Field.{part}
use Rattle.records.specs.BoxRecord.{box_bytes, box_of, box_at}
use Rattle.trackbox_feed.specs.declared.feed.Item.TheVariants.{Record, End}
use Rattle.trackbox_feed.specs.Trackbox.{lent_doubles}
use Rattle.trackbox_progress.specs.declared.progress.Progress.{Progress}
use Rattle.trackbox_progress.specs.Progress.{stopped, cleared, emptied, later, item_at, Needed}

-- ---- the next record

pub later-one : (next got : ℕ) → next < got / box_bytes → next + 1 ≡ later next got
later-one next got h = rw (lt-ltb next (got / box_bytes) h)

pub later_same : (next got : ℕ) → got / box_bytes ≤ next → next ≡ later next got
later_same next got h = rw (le-ltb next (got / box_bytes) h)

-- ---- what is handed on

module _ (next got : ℕ) (input : List ℕ) (room : got ≤ length input) where
  -- a record of the first bytes is that of the whole
  part-same : next < got / box_bytes → part (next * box_bytes) box_bytes (take got input) ≡ part (next * box_bytes) box_bytes input
  part-same h =
      let m : ℕ = got - next * box_bytes in
      let e : got ≡ next * box_bytes + m = omega (arith, h) in
      ap (λ (g : ℕ). take box_bytes (drop (next * box_bytes) (take g input))) e
      ∙ ap (take box_bytes) (drop-take (next * box_bytes) m input)
      ∙ take-take box_bytes m (drop (next * box_bytes) input) (omega (arith, h))

  by_room : box_at (take got input) next ≡ cond (ltb next (got / box_bytes)) (Some (box_of (part (next * box_bytes) box_bytes (take got input)))) None
  unfolding box_at
  by_room = rw (length-take-le got input room)

  pub record_is : {r : BoxRecord} → box_at (take got input) next ≡ Some r → Record r ≡ item_at next got input
  unfolding item_at
  record_is {r} q = by_cases (dec_le (got / box_bytes) next)
    where
      by_cases : Dec (got / box_bytes ≤ next) → Record r ≡ cond (leb (got / box_bytes) next) (End (got % box_bytes)) (Record (box_of (part (next * box_bytes) box_bytes input)))
      by_cases (yes h) = let none = rw (le-ltb next (got / box_bytes) h) at by_room in absurd (cc)
      by_cases (no h) =
          let l : next < got / box_bytes = lt_of_not-le h in
          let some = rw (lt-ltb next (got / box_bytes) l) at by_room in
          let is : r ≡ box_of (part (next * box_bytes) box_bytes (take got input)) = cc in
          rw (lt-leb (got / box_bytes) next l) (ap Record (is ∙ ap box_of (part-same l)))

  pub end_is : box_at (take got input) next ≡ None → End (got % box_bytes) ≡ item_at next got input
  unfolding item_at
  end_is q = by_cases (dec_le (got / box_bytes) next)
    where
      by_cases : Dec (got / box_bytes ≤ next) → End (got % box_bytes) ≡ cond (leb (got / box_bytes) next) (End (got % box_bytes)) (Record (box_of (part (next * box_bytes) box_bytes input)))
      by_cases (yes h) = rw (le-leb (got / box_bytes) next h)
      by_cases (no h) =
          let some = rw (lt-ltb next (got / box_bytes) (lt_of_not-le h)) at by_room in absurd (cc)

-- ---- what a write leaves

pub not_written : (p : Progress) (written : Bool) {r : Progress} → written ≡ false → r ≡ stopped p → r ≡ emptied p written
not_written p true e q = absurd (true≢false e)
not_written p false e q = q

pub was_written : (p : Progress) (written : Bool) → written ≡ true → cleared p ≡ emptied p written
was_written p true e = refl
was_written p false e = absurd (true≢false (sym e))

-- ---- what a frame needs

pub few-cells : {n : ℕ} → n ≤ 64 → n * n ≤ lent_doubles
few-cells h = mul-le-mul h h

pub needed-all : (held boxes : ℕ) → Needed held boxes lent_doubles
needed-all held boxes = record { doubles = record { enough = omega arith; bound = omega arith }; singles = record { enough = omega arith; bound = omega arith } }

pub needed-square : (held boxes : ℕ) {n : ℕ} → n ≡ max held boxes → n ≤ 64 → Needed held boxes (n * n)
needed-square held boxes {n} e h =
    let low = mul-le-mul h h in
    let s : n * n ≡ max held boxes * max held boxes = rw e in
    record { doubles = record { enough = omega (arith, s); bound = omega (arith, low) }; singles = record { enough = omega (arith, s); bound = omega (arith, low) } }
