-- `matching::columns` meets its contract. The loop's invariant: the rows before `i` have their columns. Assumes nothing.
use Rattle.std.proofs.Common.{refl, le_refl, arith}
use Rattle.laws.specs.Tab.{fill_start, fill_on, fill_whole}
use Rattle.assoc_matching.proofs.matching.columns.Goals as goal

pub loop-i-init : goal.loop-i-init
loop-i-init c = fill_start _ _ _

pub column_of-requires : goal.column_of-requires
column_of-requires c =
    c.requires.1

pub loop-i-preserved : goal.loop-i-preserved
loop-i-preserved c =
    let loop = c.loop-i in
    fill_on _ _ _ loop.invariant (omega (arith, c.loop-i-test.true, loop.invariant.same)) (le_refl _) c.column_of.ensures

pub shape_of-partner : goal.shape_of-partner
shape_of-partner c = c.loop-i.invariant.same

pub returns : goal.returns
returns c = fill_whole _ _ _ c.loop-i.invariant (omega (arith, c.loop-i-test.false, c.loop-i.invariant.same)) refl
