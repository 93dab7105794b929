-- `find_dense`, lines 155 to 181 of lapjv.rs: the columns nearest to the start are moved to the front of cols, from lo on.
use Rattle.std.specs.Prelude.{cond, List, ℕ, zero, suc, ◌+◌, ◌-◌, get_or, Float}
use Rattle.std.specs.Float.{nan}
use Rattle.std.specs.Float.Ieee.{le, lt}
use Rattle.laws.specs.Swap.{swapped}

pub record Finding : Type 0 where
  pub hi : ℕ
  pub mind : Float
  pub cols : List ℕ

abbrev pub finding : ℕ → Float → List ℕ → Finding
finding hi mind cols = record { hi = hi; mind = mind; cols = cols }

-- lines 168 to 178, at k: dj is d[cols[k]], and `swapped cols k hi` is cols[k] = cols[hi]; cols[hi] = j
abbrev pub find_step : ℕ → Float → ℕ → ℕ → Float → List ℕ → Finding
find_step lo dj k hi mind cols =
    cond (le dj mind)
    (cond (lt dj mind) (finding (lo + 1) dj (swapped cols k lo)) (finding (hi + 1) mind (swapped cols k hi)))
    (finding hi mind cols)

-- the passes at k, k + 1, .., m of them
unfoldable pub find_from : List Float → ℕ → ℕ → ℕ → Finding → Finding
find_from d lo zero k s = s
find_from d lo (suc m) k s =
    find_from d lo m (k + 1) (find_step lo (get_or d (get_or s.cols k 0) nan) k s.hi s.mind s.cols)

abbrev pub find_dense : ℕ → ℕ → List Float → List ℕ → Finding
find_dense n lo d cols = find_from d lo (n - (lo + 1)) (lo + 1) (finding (lo + 1) (get_or d (get_or cols lo 0) nan) cols)
