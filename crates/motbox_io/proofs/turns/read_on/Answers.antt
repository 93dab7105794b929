-- `turns::read_on` meets its contract. Assumes nothing.
use Rattle.motbox_io.proofs.TurnLaws.{not_filled, was_filled}
use Rattle.motbox_io.proofs.turns.read_on.Goals as goal

pub returns-then-not-p-dry : goal.returns-then-not-p-dry
returns-then-not-p-dry c = let s = c.args in not_filled s.p s.dry s.input.now c.if-not-p-dry.true

pub returns : goal.returns
returns c =
    let s = c.args in
    was_filled s.p s.dry s.input.now c.requires c.if-not-p-dry.false c.shift.new.input c.read.new.room c.read.result c.shift.auto.input c.shift.ensures c.read.ensures c.refilled.ensures
