-- `matching::solve` meets its contract. The local arrays are lent with the square's side. Assumes nothing.
use Rattle.std.proofs.Common.{sym, arith, length-take-le}
use Rattle.assoc_matching.proofs.SquareLaws.{side-few}
use Rattle.assoc_matching.proofs.matching.solve.Goals as goal

pub slice_bounds-x-end : goal.slice_bounds-x-end
slice_bounds-x-end c =
    omega (arith, side-few c.args.cost.sized c.requires.square.side)

pub slice_bounds-solve_with-end : goal.slice_bounds-solve_with-end
slice_bounds-solve_with-end c =
    sym (length-take-le _ _ (omega (arith, side-few c.args.cost.sized c.requires.square.side)))

pub slice_bounds-y-end : goal.slice_bounds-y-end
slice_bounds-y-end c =
    omega (arith, side-few c.args.cost.sized c.requires.square.side)

pub slice_bounds-solve_with-end-2 : goal.slice_bounds-solve_with-end-2
slice_bounds-solve_with-end-2 c =
    sym (length-take-le _ _ (omega (arith, side-few c.args.cost.sized c.requires.square.side)))

pub solve_with-requires : goal.solve_with-requires
solve_with-requires c = let w = c.requires.square in let few = side-few c.args.cost.sized w.side in
    record { square = record { side = w.side; some = w.some; long = w.long; long-x = length-take-le _ _ (omega (arith, few)); long-y = length-take-le _ _ (omega (arith, few)) }; rows = c.requires.rows }
