-- `direct::write_directly` meets its contract. The loop's invariant: the pairs of the rows before `i` are written, `k` of them. Assumes nothing.
use Rattle.assoc_direct.proofs.PairLaws.{wrote_start, wrote_found}
use Rattle.assoc_direct.proofs.direct.write_directly.Goals as goal

pub loop-i-preserved : goal.loop-i-preserved
loop-i-preserved c =
    let room = c.requires in
    wrote_found _ _ _ _ c.column_above-j.ensures c.loop-i.invariant c.loop-i-test.true room.boxes_fit room.tracks_fit c.put_pair-k.ensures

pub loop-i-init : goal.loop-i-init
loop-i-init c = wrote_start _ _ _ _
