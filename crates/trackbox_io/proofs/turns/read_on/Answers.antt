-- `turns::read_on` meets its contract. Assumes nothing.
use Rattle.trackbox_io.proofs.TurnLaws.{not_filled, filled}
use Rattle.trackbox_io.proofs.turns.read_on.Goals as goal

pub returns-then-not-p-spent : goal.returns-then-not-p-spent
returns-then-not-p-spent c =
    not_filled c.args.p _ c.spent.result c.spent.ensures c.if-not-p-spent.true

pub returns : goal.returns
returns c =
    filled c.args.p _ _ c.spent.result c.fill.result c.spent.ensures c.if-not-p-spent.false c.fill.ensures c.refilled.ensures
