-- `vectors::input::fill` meets its contract. The loop's invariant: before k, what is behind those given is `rest`. Assumes nothing.
use Rattle.vectors.proofs.Reading.{Reading}
use Rattle.vectors.proofs.input.fill.Given as goal

abbrev pub invariant-loop-k : goal.invariant-loop-k
invariant-loop-k g l = Reading l.rest l.given l.initial.out l.k l.out
