-- The two short loops of find_path_dense, pass by pass, for the loops of the code. Assumes nothing.
use mathlib.Core.Path.{◌≡◌, sym, ◌∙◌}
use mathlib.Core.List.{List}
use Prim.Native.Nat.{ℕ, ◌+◌, ◌-◌, ◌<◌, ◌≤◌}
use native.Mathlib.Omega.{arith}
use lib.ListN.{length, get_or, set, length-set}
use lib.Ieee.{Float, nan, binary64, add}
use Rattle.laws.specs.Fuel.{fuel_suc, fuel_zero}
use Rattle.lapjv_definition.specs.Cost.{◌⊖◌}
use Rattle.lapjv_definition.specs.Path.{last_step, last_free, raise_from}

-- ---- the last free column

pub record LastInv (n : ℕ) (cols y : List ℕ) (R : ℕ) (hi k f : ℕ) : Type 0 where
  pub to : k ≤ hi
  pub rest : last_free n cols y (hi - k) k f ≡ R

last-next : (n : ℕ) (cols y : List ℕ) (hi k f : ℕ) → k < hi → last_free n cols y (hi - k) k f ≡ last_free n cols y (hi - (k + 1)) (k + 1) (last_step n (get_or cols k 0) (get_or y (get_or cols k 0) 0) f)
unfolding last_free
last-next n cols y hi k f h = rw (fuel_suc hi k h)

pub last_again : {n : ℕ} {cols y : List ℕ} {R hi k f f' : ℕ} → LastInv n cols y R hi k f → k < hi → f' ≡ last_step n (get_or cols k 0) (get_or y (get_or cols k 0) 0) f → LastInv n cols y R hi (k + 1) f'
last_again {n} {cols} {y} {R} {hi} {k} {f} inv h e = record { to = omega arith; rest = rw e (sym (last-next n cols y hi k f h) ∙ inv.rest) }

pub last_done : {n : ℕ} {cols y : List ℕ} {R hi k f : ℕ} → LastInv n cols y R hi k f → hi ≤ k → f ≡ R
unfolding last_free
last_done {hi = hi} {k = k} inv h = rw (fuel_zero hi k h) at inv.rest

-- ---- the prices raised

pub record RaiseInv (cols : List ℕ) (d : List Float) (mind : Float) (R : List Float) (n m k : ℕ) (v : List Float) : Type 0 where
  pub to : k ≤ m
  pub len : length v ≡ n
  pub rest : raise_from cols d mind (m - k) k v ≡ R

raise_next : (cols : List ℕ) (d : List Float) (mind : Float) (m k : ℕ) (v : List Float) → k < m
    → raise_from cols d mind (m - k) k v ≡ raise_from cols d mind (m - (k + 1)) (k + 1) (set v (get_or cols k 0) (add binary64 (get_or v (get_or cols k 0) nan) (get_or d (get_or cols k 0) nan ⊖ mind)))
unfolding raise_from
raise_next cols d mind m k v h = rw (fuel_suc m k h)

pub raise_again : {cols : List ℕ} {d : List Float} {mind : Float} {R : List Float} {n m k : ℕ} {v : List Float} → RaiseInv cols d mind R n m k v → k < m
    → RaiseInv cols d mind R n m (k + 1) (set v (get_or cols k 0) (add binary64 (get_or v (get_or cols k 0) nan) (get_or d (get_or cols k 0) nan ⊖ mind)))
raise_again {cols} {d} {mind} {R} {n} {m} {k} {v} inv h = record { to = omega arith; len = length-set v (get_or cols k 0) _ ∙ inv.len; rest = sym (raise_next cols d mind m k v h) ∙ inv.rest }

pub raise_done : {cols : List ℕ} {d : List Float} {mind : Float} {R : List Float} {n m k : ℕ} {v : List Float} → RaiseInv cols d mind R n m k v → m ≤ k → v ≡ R
unfolding raise_from
raise_done {m = m} {k = k} inv h = rw (fuel_zero m k h) at inv.rest
