-- `assign` meets its contract. Five arrays of 255 places, of which the first n are lent; where the sizes do not fit, nothing is stored. Assumes nothing.
use mathlib.Core.Path.{sym, ◌∙◌}
use lib.Seq.{length-take-le}
use Rattle.laws.specs.Replicate.{take_replicate}
use Rattle.lapjv_definition.proofs.HalvesLaws.{fitting, assigning_does, assigning_not}
use Rattle.lapjv_augmentation.proofs.assign.Goals as goal

pub slice_bounds-solve-end : goal.slice_bounds-solve-end
slice_bounds-solve-end c = sym (length-take-le _ _ (fitting c.args.n c.args.cost.now _ _ (sym c.if-fits.true ∙ c.fits.ensures)).square.small)

pub slice_bounds-solve-end-then-fits : goal.slice_bounds-solve-end-then-fits
slice_bounds-solve-end-then-fits c = sym (length-take-le _ _ (fitting c.args.n c.args.cost.now _ _ (sym c.if-fits.true ∙ c.fits.ensures)).square.small)

pub slice_bounds-solve-end-then-fits-2 : goal.slice_bounds-solve-end-then-fits-2
slice_bounds-solve-end-then-fits-2 c = sym (length-take-le _ _ (fitting c.args.n c.args.cost.now _ _ (sym c.if-fits.true ∙ c.fits.ensures)).square.small)

pub slice_bounds-solve-end-then-fits-3 : goal.slice_bounds-solve-end-then-fits-3
slice_bounds-solve-end-then-fits-3 c = sym (length-take-le _ _ (fitting c.args.n c.args.cost.now _ _ (sym c.if-fits.true ∙ c.fits.ensures)).square.small)

pub slice_bounds-solve-end-then-fits-4 : goal.slice_bounds-solve-end-then-fits-4
slice_bounds-solve-end-then-fits-4 c = sym (length-take-le _ _ (fitting c.args.n c.args.cost.now _ _ (sym c.if-fits.true ∙ c.fits.ensures)).square.small)

pub invariant_of-costs : goal.invariant_of-costs
invariant_of-costs c = record { square = (fitting c.args.n c.args.cost.now _ _ (sym c.if-fits.true ∙ c.fits.ensures)).square }

pub solve-requires : goal.solve-requires
solve-requires c =
    let a = c.args in
    let w = fitting a.n a.cost.now _ _ (sym c.if-fits.true ∙ c.fits.ensures) in
    let small = w.square.small in
    (w.first, w.second, take_replicate a.n 255 0 small, length-take-le _ _ small, length-take-le _ _ small, length-take-le _ _ small, length-take-le _ _ small)

pub returns-then-fits : goal.returns-then-fits
returns-then-fits c =
    c.solve.ensures ∙ sym (assigning_does _ _ _ _ (sym c.if-fits.true ∙ c.fits.ensures))

pub returns : goal.returns
returns c = assigning_not _ _ _ _ (sym c.if-fits.false ∙ c.fits.ensures)

pub slice_bounds-free_rows-end : goal.slice_bounds-free_rows-end
slice_bounds-free_rows-end c = (fitting c.args.n c.args.cost.now _ _ (sym c.if-fits.true ∙ c.fits.ensures)).square.small

pub slice_bounds-v-end : goal.slice_bounds-v-end
slice_bounds-v-end c = (fitting c.args.n c.args.cost.now _ _ (sym c.if-fits.true ∙ c.fits.ensures)).square.small

pub slice_bounds-pred-end : goal.slice_bounds-pred-end
slice_bounds-pred-end c = (fitting c.args.n c.args.cost.now _ _ (sym c.if-fits.true ∙ c.fits.ensures)).square.small

pub slice_bounds-d-end : goal.slice_bounds-d-end
slice_bounds-d-end c = (fitting c.args.n c.args.cost.now _ _ (sym c.if-fits.true ∙ c.fits.ensures)).square.small

pub slice_bounds-cols-end : goal.slice_bounds-cols-end
slice_bounds-cols-end c = (fitting c.args.n c.args.cost.now _ _ (sym c.if-fits.true ∙ c.fits.ensures)).square.small
