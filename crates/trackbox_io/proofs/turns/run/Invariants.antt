-- `turns::run` is safe and ends, and no more is left than there was. The loop's invariant: the arrays keep their lengths, what was read and what waits lies in them, and what was handed to the output and
-- waits for it is what trackbox prints of the bytes that were read (specs/Printed.antt). Assumes nothing.
use Rattle.trackbox_io.specs.Turn.{arrays}
use Rattle.trackbox_io.proofs.TurnLaws.{Running}
use Rattle.trackbox_io.proofs.turns.run.Given as goal

abbrev pub invariant-turns : goal.invariant-turns
invariant-turns l = Running l.now (arrays l.input l.text l.floats l.counters l.labels l.boxes l.box_labels l.out l.work64 l.work32)
