-- `turns::empty` meets its contract. Assumes nothing.
use Rattle.motbox_io.proofs.TurnLaws.{not_due, was_due}
use Rattle.motbox_io.proofs.turns.empty.Goals as goal

pub returns-then-not-due : goal.returns-then-not-due
returns-then-not-due c = let s = c.args in not_due s.p s.due c.if-not-due.true

pub returns : goal.returns
returns c =
    let s = c.args in
    was_due s.p s.due c.flush.result c.if-not-due.false c.emptied.ensures
