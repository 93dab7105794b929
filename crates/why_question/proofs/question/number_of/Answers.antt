-- `question::number_of` meets its contract. The loop's invariant: what is left of the word behind the number so far gives the whole. Assumes nothing.
use mathlib.Core.Path.{◌∙◌}
use Rattle.why_question.proofs.NumberLaws.{read-start, read_other, read-on, read-end, read_none, some_bytes}
use Rattle.why_question.proofs.question.number_of.Goals as goal

pub returns-then-word-eq0 : goal.returns-then-word-eq0
returns-then-word-eq0 c = read_none _ c.if-word-eq0.true

pub loop-b-init : goal.loop-b-init
loop-b-init c = read-start _ (some_bytes c.args.word.now c.if-word-eq0.false)

pub returns-in_err-n : goal.returns-in_err-n
returns-in_err-n c =
    let loop = c.loop-b in
    c.from_residual.ensures ∙ read_other _ loop.b-index loop.n loop.invariant c.loop-b-test.true c.longer.ensures c.in_err-n.was

pub loop-b-preserved : goal.loop-b-preserved
loop-b-preserved c =
    let loop = c.loop-b in
    read-on _ loop.b-index loop.n loop.invariant c.loop-b-test.true c.longer.ensures c.in_ok-n.was

pub returns : goal.returns
returns c = read-end _ c.loop-b.b-index c.loop-b.n c.loop-b.invariant c.loop-b-test.false
