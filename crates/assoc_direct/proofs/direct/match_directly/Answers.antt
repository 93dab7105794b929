-- `direct::match_directly` meets its contract. The pairs are no more than the smaller side, so that there is room for them. Assumes nothing.
use Rattle.assoc_direct.proofs.DirectLaws.{direct_open, direct_closed}
use Rattle.assoc_direct.proofs.OpenLaws.{direct_room, direct_not, direct_done}
use Rattle.assoc_direct.proofs.direct.match_directly.Goals as goal

pub write_directly-requires : goal.write_directly-requires
write_directly-requires c =
    let taken = direct_open _ _ _ _ c.args.cost.sized c.is_direct.ensures c.if-is_direct.true in
    direct_room _ _ _ _ taken c.requires.0 c.requires.1

pub returns-then-is_direct : goal.returns-then-is_direct
returns-then-is_direct c =
    let taken = direct_open _ _ _ _ c.args.cost.sized c.is_direct.ensures c.if-is_direct.true in
    direct_done _ _ _ _ taken c.write_directly.ensures

pub returns : goal.returns
returns c = direct_not _ _ _ _ (direct_closed _ _ _ _ c.args.cost.sized c.is_direct.ensures c.if-is_direct.false)
