-- `lines::put_lines` meets its contract. The loop's invariant: the lines of the records before k are written, and the next starts at `at`. Assumes nothing.
use Rattle.trackbox_feed.proofs.LineLaws.{Lining}
use Rattle.trackbox_feed.proofs.lines.put_lines.Given as goal

abbrev pub invariant-loop-k : goal.invariant-loop-k
invariant-loop-k l = Lining l.out l.initial.text l.n l.k l.at l.text
