-- `workable::all_workable` meets its contract. The loop's invariant: the tracks before i are workable, and those from i on decide. Assumes nothing.
use mathlib.Core.Path.{◌≡◌, ap, ◌∙◌}
use mathlib.Core.Bool.{Bool}
use mathlib.Core.List.{List}
use Prim.Native.Nat.{ℕ}
use lib.ListN.{length}
use lib.Ieee.{Float}
use Rattle.laws.specs.Tab.{tab}
use Rattle.laws.specs.Every.{every, chain, every-chain, chain-on, chain_fails, chain-ends}
use Rattle.boost_tracker_table.specs.Table.{track_at, placed, tracks}
use Rattle.boost_tracker_verdict.specs.Verdict.{workable}
use Rattle.boost_tracker_verdict.proofs.Loading.{loaded, all_loaded}
use Rattle.boost_tracker_verdict.proofs.workable.all_workable.Invariants.{ok, kept}
use Rattle.boost_tracker_verdict.proofs.workable.all_workable.Goals as goal

whole : (b : Bool) (f : List Float) (c : List ℕ) (held n : ℕ) → n ≡ placed (length f) (length c) held → b ≡ chain ok kept 0 (tab (track_at f c) n) → b ≡ every workable (tracks f c held)
whole b f c held n e h = h ∙ every-chain workable 0 (tab (track_at f c) n) ∙ ap (every workable) (all_loaded f c held e)

pub returns-then-not-workable : goal.returns-then-not-workable
returns-then-not-workable c =
    let n-is = c.placed-n.ensures in
    let here = loaded _ _ _ n-is c.loop-i-test.true c.load.ensures in
    whole _ _ _ _ _ n-is (chain_fails ok kept _ _ _ c.loop-i.invariant c.loop-i-test.true here c.workable.ensures c.if-not-workable.true)

pub loop-i-preserved : goal.loop-i-preserved
loop-i-preserved c =
    let here = loaded _ _ _ c.placed-n.ensures c.loop-i-test.true c.load.ensures in
    chain-on ok kept _ _ _ c.loop-i.invariant c.loop-i-test.true here c.workable.ensures c.if-not-workable.false

pub returns : goal.returns
returns c = whole _ _ _ _ _ c.placed-n.ensures (chain-ends ok kept _ _ _ c.loop-i.invariant c.loop-i-test.false)
