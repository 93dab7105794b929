-- `reduction` meets its contract: both tests passed, the slices are as `reduce` needs them; else nothing is stored. Assumes nothing.
use mathlib.Core.Path.{sym, ◌∙◌}
use mathlib.Core.Bool.{true}
use native.Mathlib.Omega.{arith}
use lib.Seq.{length-take-le}
use Rattle.laws.specs.Replicate.{take_replicate}
use Rattle.lapjv_definition.proofs.HalvesLaws.{fitting, reduction_does, reduction_not, reduction_nor}
use Rattle.lapjv_reduction.proofs.reduction.Goals as goal

pub slice_bounds-unique-end : goal.slice_bounds-unique-end
slice_bounds-unique-end c =
    (fitting c.args.n c.args.cost.now _ _ (sym c.if-fits.true ∙ c.fits.ensures)).square.small

pub slice_bounds-reduce-end : goal.slice_bounds-reduce-end
slice_bounds-reduce-end c =
    let w = fitting c.args.n c.args.cost.now _ _ (sym c.if-fits.true ∙ c.fits.ensures) in
    sym (length-take-le _ _ (omega (arith, w.square.small)))

pub invariant_of-costs : goal.invariant_of-costs
invariant_of-costs c = record { square = (fitting c.args.n c.args.cost.now _ _ (sym c.if-fits.true ∙ c.fits.ensures)).square }

pub reduce-requires : goal.reduce-requires
reduce-requires c =
    let a = c.args in
    let w = fitting a.n a.cost.now _ _ (sym c.if-fits.true ∙ c.fits.ensures) in
    let z = fitting a.n a.cost.now _ _ (sym c.if-fits-2.true ∙ c.fits-then-fits.ensures) in
    (z.first, w.first, w.second, z.second, take_replicate a.n 255 true w.square.small)

pub returns-then-fits-2 : goal.returns-then-fits-2
returns-then-fits-2 c =
    c.reduce.ensures ∙ sym (reduction_does _ _ _ _ _ _ (sym c.if-fits.true ∙ c.fits.ensures) (sym c.if-fits-2.true ∙ c.fits-then-fits.ensures))

pub returns-then-fits : goal.returns-then-fits
returns-then-fits c =
    reduction_nor _ _ _ _ _ _ (sym c.if-fits.true ∙ c.fits.ensures) (sym c.if-fits-2.false ∙ c.fits-then-fits.ensures)

pub returns : goal.returns
returns c = reduction_not _ _ _ _ _ _ (sym c.if-fits.false ∙ c.fits.ensures)
