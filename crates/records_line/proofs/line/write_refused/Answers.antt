-- `records_line::line::write_refused` meets its contract: the line fits where its length does. Assumes nothing.
use mathlib.Core.Path.{◌≡◌}
use Prim.Native.Nat.{ℕ, ◌+◌}
use native.Mathlib.Omega.{arith}
use lib.ListN.{length}
use Rattle.records_line.specs.Text.{places}
use Rattle.records_line.specs.Line.{refused_line}
use Rattle.records_line.proofs.Laws.Digits.{most-places}
use Rattle.records_line.proofs.Laws.Lengths.{length-refused}
use Rattle.records.proofs.Puts.{writes_text, no_text}
use Rattle.records_line.proofs.line.write_refused.Goals as goal

counted : (number nth a b : ℕ) → a ≡ places number → b ≡ places nth → length (refused_line number nth) ≡ a + b + 17
counted number nth a b p q = let n = length-refused number nth in omega arith

pub overflow_add-n : goal.overflow_add-n
overflow_add-n c = let s = c.args in omega (arith, c.places.ensures, c.places-2.ensures, most-places s.number, most-places s.nth)

pub overflow_add-n-2 : goal.overflow_add-n-2
overflow_add-n-2 c = let s = c.args in omega (arith, c.places.ensures, c.places-2.ensures, most-places s.number, most-places s.nth)

pub returns-then-out-n : goal.returns-then-out-n
returns-then-out-n c = let s = c.args in no_text _ _ (counted s.number s.nth _ _ c.places.ensures c.places-2.ensures) c.if-out-n.true

pub put_refused-requires : goal.put_refused-requires
put_refused-requires c = let s = c.args in omega (arith, c.if-out-n.false, counted s.number s.nth _ _ c.places.ensures c.places-2.ensures)

pub returns : goal.returns
returns c =
    let s = c.args in
    let long = counted s.number s.nth _ _ c.places.ensures c.places-2.ensures in
    writes_text long c.if-out-n.false c.put_refused.ensures
