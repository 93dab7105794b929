-- `progress::needed` meets its contract: of 64 or fewer the square is all that is needed. Assumes nothing.
use native.Mathlib.Omega.{arith}
use Rattle.trackbox_progress.proofs.ProgressLaws.{few-cells, needed-all, needed-square}
use Rattle.trackbox_progress.proofs.progress.needed.Goals as goal

pub overflow_mul-result : goal.overflow_mul-result
overflow_mul-result c = let low = few-cells c.if-n-gt64.false in record { fits = omega (arith, low) }

pub returns-then-n-gt64 : goal.returns-then-n-gt64
returns-then-n-gt64 c = needed-all _ _

pub returns : goal.returns
returns c = needed-square _ _ c.max-n.ensures c.if-n-gt64.false
