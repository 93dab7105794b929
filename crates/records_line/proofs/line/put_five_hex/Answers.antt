-- `records_line::line::put_five_hex` meets its contract: five writes, each behind the one before it. Assumes nothing.
use native.Mathlib.Omega.{arith}
use Rattle.records_line.proofs.Laws.Lengths.{length-hex-ended}
use Rattle.records.proofs.Puts.{put_next, put-put}
use Rattle.records_line.proofs.line.put_five_hex.Goals as goal

pub put_hex-at2-requires : goal.put_hex-at2-requires
put_hex-at2-requires c =
    let end₁ = put_next c.put_hex-at1.ensures 9 (length-hex-ended _ _) in
    omega (arith, c.requires, end₁)

pub put_hex-at3-requires : goal.put_hex-at3-requires
put_hex-at3-requires c =
    let end₁ = put_next c.put_hex-at1.ensures 9 (length-hex-ended _ _) in
    let end₂ = put_next c.put_hex-at2.ensures 9 (length-hex-ended _ _) in
    omega (arith, c.requires, end₁, end₂)

pub put_hex-at4-requires : goal.put_hex-at4-requires
put_hex-at4-requires c =
    let end₁ = put_next c.put_hex-at1.ensures 9 (length-hex-ended _ _) in
    let end₂ = put_next c.put_hex-at2.ensures 9 (length-hex-ended _ _) in
    let end₃ = put_next c.put_hex-at3.ensures 9 (length-hex-ended _ _) in
    omega (arith, c.requires, end₁, end₂, end₃)

pub put_hex-requires : goal.put_hex-requires
put_hex-requires c =
    let end₁ = put_next c.put_hex-at1.ensures 9 (length-hex-ended _ _) in
    let end₂ = put_next c.put_hex-at2.ensures 9 (length-hex-ended _ _) in
    let end₃ = put_next c.put_hex-at3.ensures 9 (length-hex-ended _ _) in
    let end₄ = put_next c.put_hex-at4.ensures 9 (length-hex-ended _ _) in
    omega (arith, c.requires, end₁, end₂, end₃, end₄)

pub returns : goal.returns
returns c =
    put-put c.put_hex-at1.ensures (put-put c.put_hex-at2.ensures (put-put c.put_hex-at3.ensures (put-put c.put_hex-at4.ensures c.put_hex.ensures)))
