-- `floats::exponential::one_small` meets its contract. Assumes nothing.
use Rattle.std.proofs.Common.{arith}
use Rattle.floats.proofs.Series.{SmallStepped, small_step}
use Rattle.floats.proofs.exponential.one_small.Goals as goal
use Rattle.floats.proofs.exponential.one_small.Goals.{Start}

stepped : (c : Start) → SmallStepped c.args.r c.args.k c.args.s.last c.args.s.above
stepped c = small_step c.args.r c.args.k c.args.s.last c.args.s.above c.requires.fact_1 c.requires.fact_3 (c.requires.fact_4, c.requires.fact_5)

pub overflow_mul-last : goal.overflow_mul-last
overflow_mul-last c = record { fits = (stepped (goal.at.overflow_mul-last c).Start).product }

pub returns : goal.returns
returns c = (stepped (goal.at.returns c).Start).next

pub overflow_add-result : goal.overflow_add-result
overflow_add-result c = let s = stepped (goal.at.overflow_add-result c).Start in record { fits = omega arith }
