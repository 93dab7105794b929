-- `ccrt_init` meets its contract. The invariant: the first i entries of each list are stored. Assumes nothing.
use mathlib.Core.Path.{refl}
use native.Mathlib.Omega.{arith}
use Rattle.laws.specs.Tab.{fill_start, fill_on, fill_whole}
use Rattle.lapjv_reduction.proofs.ccrt.ccrt_init.Goals as goal

pub loop-i-init : goal.loop-i-init
loop-i-init c = (fill_start _ _ _, fill_start _ _ _, fill_start _ _ _)

pub loop-i-preserved : goal.loop-i-preserved
loop-i-preserved c =
    let l = c.loop-i in
    let q = c.requires in
    let h = c.loop-i-test.true in
    (fill_on _ _ _ l.invariant.0 h (omega (arith, q)) refl, fill_on _ _ _ l.invariant.1 h (omega (arith, q)) refl, fill_on _ _ _ l.invariant.2 h (omega (arith, q)) refl)

pub returns : goal.returns
returns c =
    let l = c.loop-i in
    let q = c.requires in
    let h = c.loop-i-test.false in
    (fill_whole _ _ _ l.invariant.0 h q.0, fill_whole _ _ _ l.invariant.1 h q.1, fill_whole _ _ _ l.invariant.2 h q.2)
