-- `lapjv_vectors::side` meets its contract: a square of side 255 has 65025 cells. Assumes nothing.
use Rattle.std.proofs.Common.{ℕ, ◌*◌, ◌≤◌, mul-le-mul}
use Rattle.vectors.proofs.Lending.{lent}
use Rattle.lapjv_vectors.proofs.side.Goals as goal

square-small : (n : ℕ) → n ≤ 255 → n * n ≤ 65025
square-small n h = mul-le-mul h h

pub slice_bounds-every_kind-end : goal.slice_bounds-every_kind-end
slice_bounds-every_kind-end c = lent 65025 _ _ (square-small c.args.n c.requires.1)
