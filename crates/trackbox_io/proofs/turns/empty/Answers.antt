-- `turns::empty` meets its contract. Assumes nothing.
use Rattle.trackbox_io.proofs.TurnLaws.{not_due, due}
use Rattle.trackbox_io.proofs.turns.empty.Goals as goal

pub returns-then-not-crowded-spent : goal.returns-then-not-crowded-spent
returns-then-not-crowded-spent c =
    not_due c.args.p _ c.crowded.result c.spent.result c.crowded.ensures c.spent.ensures c.if-not-crowded-spent.true

pub returns : goal.returns
returns c =
    due c.args.p _ c.crowded.result c.spent.result c.flush.result c.crowded.ensures c.spent.ensures
    c.if-not-crowded-spent.false c.emptied.ensures

pub crowded-requires : goal.crowded-requires
crowded-requires c = c.requires

pub flush-requires : goal.flush-requires
flush-requires c = c.requires
