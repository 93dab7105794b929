-- `matching::solve_rows` meets its contract. Assumes nothing.
use Rattle.std.proofs.Common.{sym, length-take-le}
use Rattle.laws.specs.Sides.{sides_fit}
use Rattle.assoc_matching.proofs.SquareLaws.{side-few}
use Rattle.assoc_matching.proofs.PartnerLaws.{whole_is, cells_in}
use Rattle.assoc_matching.proofs.matching.solve_rows.Goals as goal

pub overflow_mul-cells : goal.overflow_mul-cells
overflow_mul-cells c = let few = side-few c.args.cost.sized c.larger-n.ensures in record { fits = sides_fit few few }

pub slice_bounds-solve-end : goal.slice_bounds-solve-end
slice_bounds-solve-end c = cells_in c.args.cost.nrows c.args.cost.ncols c.larger-n.ensures c.requires.square

pub slice_bounds-solve-end-2 : goal.slice_bounds-solve-end-2
slice_bounds-solve-end-2 c = sym (length-take-le _ _ (cells_in c.args.cost.nrows c.args.cost.ncols c.larger-n.ensures c.requires.square))

pub solve-requires : goal.solve-requires
solve-requires c =
    let side = c.larger-n.ensures in
    let n = c.args.cost.nrows in
    let m = c.args.cost.ncols in
    record { square = whole_is n m side c.requires.some (length-take-le _ _ (cells_in n m side c.requires.square)); rows = c.requires.rows }

pub returns : goal.returns
returns c = c.solve.ensures
