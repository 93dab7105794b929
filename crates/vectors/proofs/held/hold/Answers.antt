-- `vectors::held::hold` meets its contract: what is lent is the part between the two places. Assumes nothing.
use Rattle.vectors.proofs.Parts.{outside}
use Rattle.vectors.proofs.held.hold.Goals as goal

pub returns : goal.returns
returns c =
    let filled = c.fill in
    outside c.args.w.now _ filled.new.out _ _ c.at_most-end.ensures.value c.at_most-start.ensures.value filled.auto.out
