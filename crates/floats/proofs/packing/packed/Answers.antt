-- `floats::packing::packed` meets its contract: the sum is the pattern, unless it is that of an infinity or above. Assumes nothing.
use Rattle.std.proofs.Common.{◌≡◌, ℕ, ◌*◌, ◌^◌, ◌≤◌, false, le_of_lt, lit≤}
use lib.Ieee.{binary32, of_bits, units}
use Rattle.floats.proofs.Pack.{Kept, packs, overflows, below_infinity, from_infinity, no_nan}
use Rattle.floats.proofs.packing.packed.Goals as goal

infinity : (q k : ℕ) → 2 ^ 277 ≤ q * 2 ^ k → of_bits binary32 0x7f80_0000 ≡ units binary32 false q k
unfolding of_bits
infinity q k h = overflows q k h

pub float_from_bits-result : goal.float_from_bits-result
float_from_bits-result c = no_nan _ (le_of_lt c.if-bits-lt2139095040.true)

pub float_from_bits-result-else-bits-lt2139095040 : goal.float_from_bits-result-else-bits-lt2139095040
float_from_bits-result-else-bits-lt2139095040 c = no_nan 0x7f80_0000 (lit≤ tt)

pub returns-then-bits-lt2139095040 : goal.returns-then-bits-lt2139095040
returns-then-bits-lt2139095040 c = let h : Kept c.args.kept c.args.dropped = (c.requires.fact_1, c.requires.fact_2) in packs c.args.kept c.args.dropped h (below_infinity c.args.kept c.args.dropped h c.if-bits-lt2139095040.true)

pub returns-else-bits-lt2139095040 : goal.returns-else-bits-lt2139095040
returns-else-bits-lt2139095040 c = infinity c.args.kept c.args.dropped (from_infinity c.args.kept c.args.dropped (c.requires.fact_1, c.requires.fact_2) c.if-bits-lt2139095040.false)
