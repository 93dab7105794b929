-- `fraction::packed` meets its contract: the sum is the pattern, and far below that of an infinity. Assumes nothing.
use Prim.Native.Nat.{ℕ, ◌+◌, ◌*◌, ◌^◌, ◌<◌, ◌≤◌}
use native.Mathlib.Nat.{le_of_lt}
use native.Mathlib.Omega.{arith}
use Rattle.floats.proofs.Pack.{Kept, packs, below_infinity, no_nan}
use Rattle.mot_number.proofs.fraction.packed.Goals as goal

low : (kept dropped : ℕ) → kept ≤ 2 ^ 24 → dropped < 200 → dropped * 2 ^ 23 + kept < 255 * 2 ^ 23
low kept dropped h g = omega arith

pub float_from_bits-result : goal.float_from_bits-result
float_from_bits-result c = no_nan _ (le_of_lt (low c.args.kept c.args.dropped c.requires.fact_2 c.requires.fact_3))

pub returns : goal.returns
returns c =
    let h : Kept c.args.kept c.args.dropped = (c.requires.fact_2, λ some. c.requires.fact_1) in
    packs c.args.kept c.args.dropped h (below_infinity c.args.kept c.args.dropped h (low c.args.kept c.args.dropped c.requires.fact_2 c.requires.fact_3))
