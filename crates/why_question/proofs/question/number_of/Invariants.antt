-- `question::number_of` meets its contract. The loop's invariant: what is left of the word behind the number so far gives the whole. Assumes nothing.
use Rattle.why_question.proofs.NumberLaws.{Reading}
use Rattle.why_question.proofs.question.number_of.Given as goal

abbrev pub invariant-loop-b : goal.invariant-loop-b
invariant-loop-b l = Reading l.word l.b-index l.n
