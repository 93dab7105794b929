-- `direct::is_direct` meets its contract. The local array is lent with as many zeros as there are columns. Assumes nothing.
use mathlib.Core.Path.{sym, ◌∙◌}
use native.Mathlib.Omega.{arith}
use lib.Seq.{length-take-le}
use Rattle.assoc_direct.proofs.DirectLaws.{clean, sized, decided, undecided}
use Rattle.assoc_direct.proofs.direct.is_direct.Goals as goal

pub slice_bounds-sums-end : goal.slice_bounds-sums-end
slice_bounds-sums-end c =
    let sides = sized _ _ _ (sym c.is_matrix.ensures ∙ c.if-is_matrix.true) in
    omega (arith, sides.few-cols)

pub slice_bounds-is_direct_with-end : goal.slice_bounds-is_direct_with-end
slice_bounds-is_direct_with-end c =
    let sides = sized _ _ _ (sym c.is_matrix.ensures ∙ c.if-is_matrix.true) in
    sym (length-take-le _ _ (omega (arith, sides.few-cols)))

pub is_direct_with-requires : goal.is_direct_with-requires
is_direct_with-requires c =
    let sides = sized _ _ _ (sym c.is_matrix.ensures ∙ c.if-is_matrix.true) in
    clean c.args.tracks 255 0 sides.few-cols

pub returns-then-is_matrix : goal.returns-then-is_matrix
returns-then-is_matrix c =
    decided _ _ _ _ c.is_matrix.ensures c.if-is_matrix.true c.is_direct_with.ensures

pub returns : goal.returns
returns c = undecided _ _ _ _ c.is_matrix.ensures c.if-is_matrix.false

pub invariant_of-cost : goal.invariant_of-cost
invariant_of-cost c = record { sized = sized _ _ _ (sym c.is_matrix.ensures ∙ c.if-is_matrix.true) }
