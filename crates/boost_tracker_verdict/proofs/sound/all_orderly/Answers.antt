-- `sound::all_orderly` meets its contract. The loop's invariant: the tracks before i are orderly, `low` is the id of the last of them, and those from i on decide.
-- Assumes nothing.
use mathlib.Core.Path.{◌≡◌, ap, ◌∙◌}
use mathlib.Core.Bool.{Bool}
use mathlib.Core.List.{List}
use Prim.Native.Nat.{ℕ}
use lib.ListN.{length}
use lib.Ieee.{Float}
use Rattle.laws.specs.Tab.{tab}
use Rattle.laws.specs.Every.{chain, chain-on, chain_fails, chain-ends}
use Rattle.boost_tracker_table.specs.Table.{track_at, placed, tracks}
use Rattle.boost_tracker_verdict.specs.Private.{orderly, id_of}
use Rattle.boost_tracker_verdict.proofs.Loading.{loaded, all_loaded}
use Rattle.boost_tracker_verdict.proofs.sound.all_orderly.Goals as goal

whole : (b : Bool) (last frames : ℕ) (f : List Float) (c : List ℕ) (held n : ℕ) → n ≡ placed (length f) (length c) held
    → b ≡ chain (orderly last frames) id_of 0 (tab (track_at f c) n) → b ≡ chain (orderly last frames) id_of 0 (tracks f c held)
whole b last frames f c held n e h = h ∙ ap (chain (orderly last frames) id_of 0) (all_loaded f c held e)

pub returns-then-not-orderly : goal.returns-then-not-orderly
returns-then-not-orderly c =
    let n-is = c.placed-n.ensures in
    let here = loaded _ _ _ n-is c.loop-i-test.true c.load-t.ensures in
    whole _ _ _ _ _ _ _ n-is (chain_fails _ _ _ _ _ c.loop-i.invariant c.loop-i-test.true here c.orderly.ensures c.if-not-orderly.true)

pub loop-i-preserved : goal.loop-i-preserved
loop-i-preserved c =
    let here = loaded _ _ _ c.placed-n.ensures c.loop-i-test.true c.load-t.ensures in
    chain-on _ _ _ _ _ c.loop-i.invariant c.loop-i-test.true here c.orderly.ensures c.if-not-orderly.false

pub returns : goal.returns
returns c = whole _ _ _ _ _ _ _ c.placed-n.ensures (chain-ends _ _ _ _ _ c.loop-i.invariant c.loop-i-test.false)
