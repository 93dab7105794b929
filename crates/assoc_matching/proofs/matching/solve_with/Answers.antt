-- `matching::solve_with` meets its contract. lapjv turns no square of the larger side down. Assumes nothing.
use native.Mathlib.Nat.{le-max_left}
use Rattle.std.proofs.Common.{arith}
use Rattle.assoc_matching.proofs.SquareLaws.{got, got-none, got-some, side-few}
use Rattle.assoc_matching.proofs.matching.solve_with.Goals as goal

pub cost_square-requires : goal.cost_square-requires
cost_square-requires c =
    let few = side-few c.args.cost.sized c.requires.square.side in
    record { few-rows = few; few-cols = few; long = c.requires.square.long }

pub returns-in_default : goal.returns-in_default
returns-in_default c =
    absurd (got-none (got _ _ _ c.args.cost.sized c.requires.square c.cost_square.ensures c.lapjv.ensures) c.in_default.is)

pub columns-requires : goal.columns-requires
columns-requires c =
    (omega (arith, c.lapjv.auto.x, c.requires.square.long-x, c.requires.square.side, le-max_left c.args.cost.nrows c.args.cost.ncols, c.requires.rows), c.args.cost.sized.few-cols)

pub returns : goal.returns
returns c =
    got-some (got _ _ _ c.args.cost.sized c.requires.square c.cost_square.ensures c.lapjv.ensures) c.in-Ok.is c.columns.ensures c.requires.rows
