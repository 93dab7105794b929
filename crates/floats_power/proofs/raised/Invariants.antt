-- `floats_power::raised` meets its contract. The invariant of its loop: what is left to do gives what the whole gives. Assumes nothing.
use mathlib.Core.Path.{◌≡◌}
use Prim.Native.Nat.{ℕ, ◌^◌, ◌<◌}
use lib.Ieee.{Float}
use Rattle.floats.specs.Power.{powers, one}
use Rattle.floats_power.proofs.raised.Given as goal

-- what is left to do with d bits
abbrev pub Left : Float → ℕ → Float → Float → Type 0
Left square left r whole = (d : ℕ) × (left < 2 ^ d) × (powers d square left r ≡ whole)

abbrev pub invariant-loop-left : goal.invariant-loop-left
invariant-loop-left l = Left l.square l.left l.r (powers 32 l.c l.n one)

abbrev pub decreases-loop-left : goal.decreases-loop-left
decreases-loop-left l = l.left
