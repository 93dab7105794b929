-- `all_alike` meets its contract.
use Rattle.std.proofs.Common.{refl, zero-le, arith}
use Rattle.laws.specs.Every.{every}
use Rattle.labels.specs.Label.{same_label}
use Rattle.labels.proofs.RowLaws.{every-on}
use Rattle.labels.proofs.all_alike.Goals as goal

pub loop-other-init : goal.loop-other-init
unfolding every
loop-other-init c = (zero-le, refl)

pub loop-other-preserved : goal.loop-other-preserved
loop-other-preserved c =
    (omega arith, every-on (same_label c.args.label) c.args.labels.now c.loop-other.other-index c.loop-other.invariant.1 c.loop-other-test.true c.same_label-all.ensures)
