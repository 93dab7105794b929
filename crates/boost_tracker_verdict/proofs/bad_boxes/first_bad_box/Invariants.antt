-- `bad_boxes::first_bad_box` meets its contract. The loop's invariant: no box before i is bad. Assumes nothing.
use Rattle.laws.specs.Scan.{Scanning}
use Rattle.boost_tracker_verdict.specs.Verdict.{bad_box_at}
use Rattle.boost_tracker_verdict.proofs.bad_boxes.first_bad_box.Given as goal

abbrev pub invariant-loop-i : goal.invariant-loop-i
invariant-loop-i l = Scanning (bad_box_at l.boxes) l.n l.i
