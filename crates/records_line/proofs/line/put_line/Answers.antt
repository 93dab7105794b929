-- `records_line::line::put_line` meets its contract: three writes, each behind the one before it. Assumes nothing.
use native.Mathlib.Omega.{arith}
use Rattle.records_line.specs.Line.{line}
use Rattle.records_line.proofs.Laws.Lengths.{length-line, length-decimal, length-decimal-ended}
use Rattle.records.proofs.Puts.{put_next, put-put}
use Rattle.records_line.proofs.line.put_line.Goals as goal

pub put_decimal-id-requires : goal.put_decimal-id-requires
put_decimal-id-requires c = let t = c.args.t in omega (arith, c.requires, length-line t, length-decimal t.frame)

pub put_decimal-floats-requires : goal.put_decimal-floats-requires
put_decimal-floats-requires c =
    let t = c.args.t in
    omega (arith, c.requires, length-line t, length-decimal t.id, put_next c.put_decimal-id.ensures _ (length-decimal-ended t.frame 32))

pub put_five_hex-requires : goal.put_five_hex-requires
put_five_hex-requires c =
    let t = c.args.t in
    let frame-end = put_next c.put_decimal-id.ensures _ (length-decimal-ended t.frame 32) in
    let id-end = put_next c.put_decimal-floats.ensures _ (length-decimal-ended t.id 32) in
    omega (arith, c.requires, length-line t, frame-end, id-end)

pub returns : goal.returns
unfolding line
returns c =
    put-put c.put_decimal-id.ensures (put-put c.put_decimal-floats.ensures c.put_five_hex.ensures)
