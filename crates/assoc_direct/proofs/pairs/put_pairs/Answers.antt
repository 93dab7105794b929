-- `pairs::put_pairs` meets its contract. Assumes nothing.
use Rattle.assoc_direct.proofs.PairLaws.{wrote_start, wrote_found}
use Rattle.assoc_direct.proofs.pairs.put_pairs.Goals as goal

pub loop-i-init : goal.loop-i-init
loop-i-init g c = λ f e room. wrote_start _ _ _ _

pub loop-i-preserved : goal.loop-i-preserved
loop-i-preserved g c = λ f e room. wrote_found _ _ _ _ (e c.loop-i.i _ c.loop-i-test.true c.column.ensures) (c.loop-i.invariant f e room) c.loop-i-test.true room.boxes_fit room.tracks_fit c.put_pair-k.ensures
