-- `last_free` meets its contract. The invariant: what is left of the definition's passes gives the whole, over some f that `found` is the option of. Assumes nothing.
use mathlib.Core.Path.{◌≡◌}
use Prim.Native.Nat.{ℕ, ◌-◌}
use Rattle.lapjv_definition.specs.Entry.{owner_of}
use Rattle.lapjv_definition.specs.Path.{last_free}
use Rattle.lapjv_definition.proofs.PathLaws.{LastInv}
use Rattle.lapjv_augmentation.proofs.path.last_free.Given as goal

abbrev pub invariant-loop-k : goal.invariant-loop-k
invariant-loop-k l = (f : ℕ) × (l.found ≡ owner_of l.n f) × LastInv l.n l.cols l.y (last_free l.n l.cols l.y (l.hi - l.lo) l.lo l.n) l.hi l.k f
