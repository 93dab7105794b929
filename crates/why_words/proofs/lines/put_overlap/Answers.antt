-- `lines::put_overlap` meets its contract: its four parts, one behind the other. Assumes nothing.
use Rattle.std.proofs.Common.{refl, arith}
use Rattle.why_words.specs.Words.{ascii, overlap_text}
use Rattle.why_words.proofs.PutLaws.{puts_next, puts_then, share_puts}
use Rattle.why_words.proofs.lines.put_overlap.Goals as goal

pub put_float-of-requires : goal.put_float-of-requires
put_float-of-requires c = omega (arith, c.requires)

pub put_float-over-requires : goal.put_float-over-requires
put_float-over-requires c = omega (arith, c.requires, puts_next c.put_float-of.ensures 35 refl)

pub put_float-label-requires : goal.put_float-label-requires
put_float-label-requires c =
    let end₁ = puts_next c.put_float-over.ensures 29 refl in
    let end₂ = puts_next c.put_float-of.ensures 35 refl in
    omega (arith, c.requires, end₁, end₂)

pub put_label-requires : goal.put_label-requires
put_label-requires c =
    let end₁ = puts_next c.put_float-label.ensures 31 refl in
    let end₂ = puts_next c.put_float-over.ensures 29 refl in
    let end₃ = puts_next c.put_float-of.ensures 35 refl in
    omega (arith, c.requires, end₁, end₂, end₃)

pub returns : goal.returns
unfolding ascii overlap_text
returns c =
    puts_then (share_puts c.args.p c.share.ensures c.put_float-of.ensures)
    (puts_then c.put_float-over.ensures (puts_then c.put_float-label.ensures c.put_label.ensures))
