-- `floats::exponential::one_more` meets its contract. Assumes nothing.
use Rattle.std.proofs.Common.{arith, Fits-le, Fits-lit}
use Rattle.floats.proofs.Series.{Stepped, step}
use Rattle.floats.proofs.exponential.one_more.Goals as goal
use Rattle.floats.proofs.exponential.one_more.Goals.{Start}

stepped : (c : Start) → Stepped c.args.r c.args.k c.args.s.last c.args.s.above
stepped c = step c.args.r c.args.k c.args.s.last c.args.s.above c.requires.fact_1 c.requires.fact_3

pub overflow_mul-last : goal.overflow_mul-last
overflow_mul-last c = Fits-le (stepped (goal.at.overflow_mul-last c).Start).product (Fits-lit tt)

pub returns : goal.returns
returns c = (stepped (goal.at.returns c).Start).next

pub overflow_add-result : goal.overflow_add-result
overflow_add-result c = let s = stepped (goal.at.overflow_add-result c).Start in record { fits = omega arith }
