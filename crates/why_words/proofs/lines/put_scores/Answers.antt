-- `lines::put_scores` meets its contract. Assumes nothing.
use Rattle.std.proofs.Common.{refl, arith}
use Rattle.why_words.specs.Words.{ascii, scores_text}
use Rattle.why_words.proofs.PutLaws.{puts_next, puts_then}
use Rattle.why_words.proofs.lines.put_scores.Goals as goal

pub put_float-at1-requires : goal.put_float-at1-requires
put_float-at1-requires c = omega (arith, c.requires)

pub put_float-at2-requires : goal.put_float-at2-requires
put_float-at2-requires c = omega (arith, c.requires, puts_next c.put_float-at1.ensures 33 refl)

pub put_float-at3-requires : goal.put_float-at3-requires
put_float-at3-requires c =
    let end₁ = puts_next c.put_float-at2.ensures 27 refl in
    let end₂ = puts_next c.put_float-at1.ensures 33 refl in
    omega (arith, c.requires, end₁, end₂)

pub put_word-requires : goal.put_word-requires
put_word-requires c =
    let end₁ = puts_next c.put_float-at3.ensures 47 refl in
    let end₂ = puts_next c.put_float-at2.ensures 27 refl in
    let end₃ = puts_next c.put_float-at1.ensures 33 refl in
    omega (arith, c.requires, end₁, end₂, end₃)

pub returns : goal.returns
unfolding ascii scores_text
returns c = puts_then c.put_float-at1.ensures (puts_then c.put_float-at2.ensures (puts_then c.put_float-at3.ensures c.put_word.ensures))
