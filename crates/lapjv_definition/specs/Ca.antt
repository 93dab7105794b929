-- `ca_dense`, lines 284 to 317 of lapjv.rs. n stands for -1.
use Rattle.std.specs.Prelude.{cond, List, ℕ, zero, suc, ◌+◌, eqb, get_or, set, Float}
use Rattle.lapjv_definition.specs.Entry.{owner_of, row_of}
use Rattle.lapjv_definition.specs.Path.{find_path_dense}

-- ---- lines 303 to 314: back along the path, from its free column j to free_row. Row pred[j] takes column j, and the column that it had is the next j

pub record Augmented : Type 0 where
  pub i : ℕ
  pub x : List ℕ
  pub y : List ℕ

abbrev pub augmented : ℕ → List ℕ → List ℕ → Augmented
augmented i x y = record { i = i; x = x; y = y }

-- while i != free_row. The Rust bounds this loop by nothing; here it has fuel, one for each pass. The fuel never runs out: `augment` of `Ends`, in
-- Bounds.antt, says that the path ends at free_row. `debug_assert!(k <= n)` stands after `k += 1`, so a path through all n rows passes it.
unfoldable pub augment_from : ℕ → List ℕ → ℕ → ℕ → ℕ → ℕ → List ℕ → List ℕ → Augmented
augment_from n pred free_row zero i j x y = augmented i x y
augment_from n pred free_row (suc fuel) i j x y =
    let i' = get_or pred j 0 in
    let j' = row_of n (owner_of n (get_or x i' 0)) in
    let r = augment_from n pred free_row fuel i' j' (set x i' j) (set y j i') in
    cond (eqb i free_row) (augmented i x y) r

-- ---- lines 295 to 315: the loop over the free rows

pub record Assigned : Type 0 where
  pub x : List ℕ
  pub y : List ℕ
  pub v : List Float
  pub scans : ℕ

abbrev pub assigned : List ℕ → List ℕ → List Float → ℕ → Assigned
assigned x y v scans = record { x = x; y = y; v = v; scans = scans }

-- the passes at row_n, row_n + 1, .., m of them
unfoldable pub ca_from : ℕ → List Float → List ℕ → ℕ → ℕ → Assigned → Assigned
ca_from n cost free_rows zero row_n s = s
ca_from n cost free_rows (suc m) row_n s =
    let free_row = get_or free_rows row_n 0 in
    let p = find_path_dense n cost free_row s.y s.v in
    let a = augment_from n p.pred free_row n n p.final_j s.x s.y in
    ca_from n cost free_rows m (row_n + 1) (assigned a.x a.y p.v (s.scans + p.scans))

abbrev pub ca_dense : ℕ → List Float → ℕ → List ℕ → List ℕ → List ℕ → List Float → Assigned
ca_dense n cost n_free_rows free_rows x y v = ca_from n cost free_rows n_free_rows 0 (assigned x y v 0)
