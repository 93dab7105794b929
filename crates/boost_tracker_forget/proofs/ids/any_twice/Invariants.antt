-- `ids::any_twice` meets its contract. The loop's invariant: of the ids before place i none stands twice. Assumes nothing.
use mathlib.Core.Path.{◌≡◌}
use mathlib.Core.Bool.{false}
use lib.ListN.{take}
use Rattle.boost_tracker_forget.specs.Forget.{twice}
use Rattle.boost_tracker_forget.proofs.ids.any_twice.Given as goal

abbrev pub invariant-loop-i : goal.invariant-loop-i
invariant-loop-i l = twice (take l.i l.ids) ≡ false
