-- `records::box_record::BoxRecord::put` meets its contract: three writes, each behind the one before it. Assumes nothing.
use native.Mathlib.Omega.{arith}
use Rattle.records.proofs.Laws.Lengths.{length_le, length-five}
use Rattle.records.proofs.Puts.{put-le, put_next, put-put}
use Rattle.records.proofs.box_record.BoxRecordRecord.put.Goals as goal

pub put_u8-requires : goal.put_u8-requires
put_u8-requires c =
    let frame = put-le 4 _ c.to_le_bytes.ensures c.put_bytes-floats.ensures in
    omega (arith, c.requires, put_next frame 4 (length_le 4 _), put_next c.put_five-label.ensures 20 (length-five _ _ _ _ _))

pub returns : goal.returns
returns c =
    put-put (put-le 4 _ c.to_le_bytes.ensures c.put_bytes-floats.ensures) (put-put c.put_five-label.ensures c.put_u8.ensures)
