-- `records::field::put_five` meets its contract: five writes, each behind the one before it. Assumes nothing.
use native.Mathlib.Omega.{arith}
use Rattle.records.proofs.Laws.Lengths.{length_le}
use Rattle.records.proofs.Puts.{put_next, put-put}
use Rattle.records.proofs.field.put_five.Goals as goal

pub put_f32-at2-requires : goal.put_f32-at2-requires
put_f32-at2-requires c =
    let end₁ = put_next c.put_f32-at1.ensures 4 (length_le 4 _) in
    omega (arith, c.requires, end₁)

pub put_f32-at3-requires : goal.put_f32-at3-requires
put_f32-at3-requires c =
    let end₁ = put_next c.put_f32-at1.ensures 4 (length_le 4 _) in
    let end₂ = put_next c.put_f32-at2.ensures 4 (length_le 4 _) in
    omega (arith, c.requires, end₁, end₂)

pub put_f32-at4-requires : goal.put_f32-at4-requires
put_f32-at4-requires c =
    let end₁ = put_next c.put_f32-at1.ensures 4 (length_le 4 _) in
    let end₂ = put_next c.put_f32-at2.ensures 4 (length_le 4 _) in
    let end₃ = put_next c.put_f32-at3.ensures 4 (length_le 4 _) in
    omega (arith, c.requires, end₁, end₂, end₃)

pub put_f32-requires : goal.put_f32-requires
put_f32-requires c =
    let end₁ = put_next c.put_f32-at1.ensures 4 (length_le 4 _) in
    let end₂ = put_next c.put_f32-at2.ensures 4 (length_le 4 _) in
    let end₃ = put_next c.put_f32-at3.ensures 4 (length_le 4 _) in
    let end₄ = put_next c.put_f32-at4.ensures 4 (length_le 4 _) in
    omega (arith, c.requires, end₁, end₂, end₃, end₄)

pub returns : goal.returns
returns c =
    put-put c.put_f32-at1.ensures (put-put c.put_f32-at2.ensures (put-put c.put_f32-at3.ensures (put-put c.put_f32-at4.ensures c.put_f32.ensures)))
