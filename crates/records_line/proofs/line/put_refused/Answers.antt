-- `records_line::line::put_refused` meets its contract: four writes, each behind the one before it. Assumes nothing.
use mathlib.Core.Path.{refl}
use native.Mathlib.Omega.{arith}
use Rattle.records_line.specs.Line.{refused_line}
use Rattle.records_line.proofs.Laws.Lengths.{length-refused, length-decimal, length-decimal-ended}
use Rattle.records.proofs.Puts.{put_next, put-put}
use Rattle.records_line.proofs.line.put_refused.Goals as goal

pub put_bytes-at1-requires : goal.put_bytes-at1-requires
put_bytes-at1-requires c = let s = c.args in omega (arith, c.requires, length-refused s.number s.nth)

pub put_decimal-at2-requires : goal.put_decimal-at2-requires
put_decimal-at2-requires c =
    let s = c.args in
    omega (arith, c.requires, length-refused s.number s.nth, length-decimal s.number, put_next c.put_bytes-at1.ensures 8 refl)

pub put_bytes-at3-requires : goal.put_bytes-at3-requires
put_bytes-at3-requires c =
    let s = c.args in
    let number-end = put_next c.put_decimal-at2.ensures _ (length-decimal-ended s.number 32) in
    omega (arith, c.requires, length-refused s.number s.nth, put_next c.put_bytes-at1.ensures 8 refl, number-end)

pub put_decimal-requires : goal.put_decimal-requires
put_decimal-requires c =
    let s = c.args in
    let number-end = put_next c.put_decimal-at2.ensures _ (length-decimal-ended s.number 32) in
    omega (arith, c.requires, length-refused s.number s.nth, length-decimal s.nth, put_next c.put_bytes-at1.ensures 8 refl, number-end, put_next c.put_bytes-at3.ensures 7 refl)

pub returns : goal.returns
unfolding refused_line
returns c =
    put-put c.put_bytes-at1.ensures (put-put c.put_decimal-at2.ensures (put-put c.put_bytes-at3.ensures c.put_decimal.ensures))
