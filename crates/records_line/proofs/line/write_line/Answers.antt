-- `records_line::line::write_line` meets its contract: the line fits where its length does. Assumes nothing.
use mathlib.Core.Path.{◌≡◌}
use Prim.Native.Nat.{ℕ, ◌+◌}
use native.Mathlib.Omega.{arith}
use lib.ListN.{length}
use Rattle.records.specs.declared.track_record.TrackRecord.{TrackRecord}
use Rattle.records_line.specs.Text.{places}
use Rattle.records_line.specs.Line.{line}
use Rattle.records_line.proofs.Laws.Digits.{most-places}
use Rattle.records_line.proofs.Laws.Lengths.{length-line}
use Rattle.records.proofs.Puts.{writes_text, no_text}
use Rattle.records_line.proofs.line.write_line.Goals as goal

counted : (t : TrackRecord) (a b : ℕ) → a ≡ places t.frame → b ≡ places t.id → length (line t) ≡ a + b + 47
counted t a b p q = let n = length-line t in omega arith

pub overflow_add-n : goal.overflow_add-n
overflow_add-n c = let t = c.args.t in omega (arith, c.places.ensures, c.places-2.ensures, most-places t.frame, most-places t.id)

pub overflow_add-n-2 : goal.overflow_add-n-2
overflow_add-n-2 c = let t = c.args.t in omega (arith, c.places.ensures, c.places-2.ensures, most-places t.frame, most-places t.id)

pub returns-then-out-n : goal.returns-then-out-n
returns-then-out-n c = no_text _ _ (counted c.args.t _ _ c.places.ensures c.places-2.ensures) c.if-out-n.true

pub put_line-requires : goal.put_line-requires
put_line-requires c = omega (arith, c.if-out-n.false, counted c.args.t _ _ c.places.ensures c.places-2.ensures)

pub returns : goal.returns
returns c =
    let long = counted c.args.t _ _ c.places.ensures c.places-2.ensures in
    writes_text long c.if-out-n.false c.put_line.ensures
