-- `lines::put_no_box` meets its contract. Assumes nothing.
use Rattle.std.proofs.Common.{refl, arith}
use Rattle.why_words.specs.Words.{ascii, no_box_line}
use Rattle.why_words.proofs.PutLaws.{puts_next, puts_then}
use Rattle.why_words.proofs.lines.put_no_box.Goals as goal

pub put_count-at1-requires : goal.put_count-at1-requires
put_count-at1-requires c = omega (arith, c.requires)

pub put_count-at2-requires : goal.put_count-at2-requires
put_count-at2-requires c = omega (arith, c.requires, puts_next c.put_count-at1.ensures 37 refl)

pub put_count-at3-requires : goal.put_count-at3-requires
put_count-at3-requires c =
    let end₁ = puts_next c.put_count-at2.ensures 25 refl in
    let end₂ = puts_next c.put_count-at1.ensures 37 refl in
    omega (arith, c.requires, end₁, end₂)

pub put_word-requires : goal.put_word-requires
put_word-requires c =
    let end₁ = puts_next c.put_count-at3.ensures 55 refl in
    let end₂ = puts_next c.put_count-at2.ensures 25 refl in
    let end₃ = puts_next c.put_count-at1.ensures 37 refl in
    omega (arith, c.requires, end₁, end₂, end₃)

pub returns : goal.returns
unfolding ascii no_box_line
returns c = puts_then c.put_count-at1.ensures (puts_then c.put_count-at2.ensures (puts_then c.put_count-at3.ensures c.put_word.ensures))
