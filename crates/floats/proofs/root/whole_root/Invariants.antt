-- `floats::root::whole_root` meets its contract. The invariant of its loop: r is short. The measure is how far r is from the root, on whichever side. Assumes nothing.
use Rattle.std.proofs.Common.{◌+◌, ◌-◌, ◌^◌, ◌<◌}
use Rattle.floats.specs.Root.{whole_root}
use Rattle.floats.proofs.root.whole_root.Given as goal

abbrev pub invariant-loop-r : goal.invariant-loop-r
invariant-loop-r l = l.r < 2 ^ 24

abbrev pub decreases-loop-r : goal.decreases-loop-r
decreases-loop-r l = (l.r - whole_root 24 l.n) + (whole_root 24 l.n - l.r)
