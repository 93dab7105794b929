-- Each label before i is one of the three.
use Rattle.laws.specs.Scan.{Scanning}
use Rattle.labels.specs.Label.{unlabelled_at}
use Rattle.labels.proofs.first_unlabelled.Given as goal

abbrev pub invariant-loop-i : goal.invariant-loop-i
invariant-loop-i l = Scanning (unlabelled_at l.labels) l.n l.i
