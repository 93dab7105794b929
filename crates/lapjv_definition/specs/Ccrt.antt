-- `ccrt_dense`, lines 15 to 82 of lapjv.rs. n stands for -1.
use Rattle.std.specs.Prelude.{Bool, true, false, cond, List, ℕ, zero, suc, ◌+◌, eqb, get_or, set, replicate, Float}
use Rattle.std.specs.Float.{nan}
use Rattle.std.specs.Float.Ieee.{lt}
use Rattle.laws.specs.Tab.{tab}
use Rattle.lapjv_definition.specs.Cost.{at, ◌⊖◌, large}
use Rattle.lapjv_definition.specs.Entry.{owner_of, is_free, row_of}

-- ---- lines 34 to 42: each column's least cost, and the first row that has it. Only costs below LARGE count: a column with none keeps LARGE and row 0

pub record Prices : Type 0 where
  pub y : List ℕ
  pub v : List Float

abbrev pub prices : List ℕ → List Float → Prices
prices y v = record { y = y; v = v }

-- row i at column j, whose cost is c
abbrev pub row_step : ℕ → ℕ → Float → List ℕ → List Float → Prices
row_step i j c y v = cond (lt c (get_or v j nan)) (prices (set y j i) (set v j c)) (prices y v)

-- row i at columns j, j + 1, .., m of them
unfoldable pub row_from : ℕ → List Float → ℕ → ℕ → ℕ → Prices → Prices
row_from n cost i zero j s = s
row_from n cost i (suc m) j s = row_from n cost i m (j + 1) (row_step i j (at cost n i j) s.y s.v)

-- rows i, i + 1, .., m of them
unfoldable pub rows_from : ℕ → List Float → ℕ → ℕ → Prices → Prices
rows_from n cost zero i s = s
rows_from n cost (suc m) i s = rows_from n cost m (i + 1) (row_from n cost i n 0 s)

-- ---- lines 44 to 58: from the last column down, each row keeps the first column that names it

pub record Taken : Type 0 where
  pub x : List ℕ
  pub y : List ℕ
  pub unique : List Bool

abbrev pub taken : List ℕ → List ℕ → List Bool → Taken
taken x y unique = record { x = x; y = y; unique = unique }

-- column j, whose row is i
abbrev pub col_step : ℕ → ℕ → ℕ → List ℕ → List ℕ → List Bool → Taken
col_step n j i x y unique = cond (is_free (owner_of n (get_or x i 0))) (taken (set x i j) y unique) (taken x (set y j n) (set unique i false))

-- columns j - 1 down to 0
unfoldable pub cols_from : ℕ → ℕ → Taken → Taken
cols_from n zero s = s
cols_from n (suc j) s = cols_from n j (col_step n j (row_of n (owner_of n (get_or s.y j 0))) s.x s.y s.unique)

-- ---- lines 60 to 80: the free rows are listed, and the column of a row that has one alone gets a lower price

-- column j2, whose reduced cost is c, against the least so far; column j is passed over
abbrev pub min_step : ℕ → ℕ → Float → Float → Float
min_step j j2 c min = cond (eqb j2 j) min (cond (lt c min) c min)

-- columns j2, j2 + 1, .., m of them
unfoldable pub min_from : ℕ → List Float → ℕ → ℕ → List Float → ℕ → ℕ → Float → Float
min_from n cost i j v zero j2 min = min
min_from n cost i j v (suc m) j2 min = min_from n cost i j v m (j2 + 1) (min_step j j2 (at cost n i j2 ⊖ get_or v j2 nan) min)

pub record Reduced : Type 0 where
  pub free_rows : List ℕ
  pub n_free_rows : ℕ
  pub v : List Float

abbrev pub reduced : List ℕ → ℕ → List Float → Reduced
reduced free_rows n_free_rows v = record { free_rows = free_rows; n_free_rows = n_free_rows; v = v }

-- row i: xi is x[i], and u is unique[i]
abbrev pub reduce_step : ℕ → List Float → ℕ → ℕ → Bool → List ℕ → ℕ → List Float → Reduced
reduce_step n cost i xi u free_rows n_free_rows v =
    let j = row_of n (owner_of n xi) in
    cond (is_free (owner_of n xi)) (reduced (set free_rows n_free_rows i) (n_free_rows + 1) v)
    (cond u (reduced free_rows n_free_rows (set v j (get_or v j nan ⊖ min_from n cost i j v n 0 large)))
    (reduced free_rows n_free_rows v))

-- rows i, i + 1, .., m of them
unfoldable pub reduce_from : ℕ → List Float → List ℕ → List Bool → ℕ → ℕ → Reduced → Reduced
reduce_from n cost x unique zero i s = s
reduce_from n cost x unique (suc m) i s =
    reduce_from n cost x unique m (i + 1) (reduce_step n cost i (get_or x i 0) (get_or unique i false) s.free_rows s.n_free_rows s.v)

-- ---- the whole, from lines 29 to 33: x[i] = -1; v[i] = LARGE; y[i] = 0

pub record Ccrt : Type 0 where
  pub x : List ℕ
  pub y : List ℕ
  pub v : List Float
  pub free_rows : List ℕ
  pub n_free_rows : ℕ

abbrev pub ccrt_at : List ℕ → List ℕ → List Float → List ℕ → ℕ → Ccrt
ccrt_at x y v free_rows n_free_rows = record { x = x; y = y; v = v; free_rows = free_rows; n_free_rows = n_free_rows }

abbrev pub ccrt_dense : ℕ → List Float → List ℕ → Ccrt
ccrt_dense n cost free_rows =
    let p = rows_from n cost n 0 (prices (tab (λ i. 0) n) (tab (λ i. large) n)) in
    let t = cols_from n n (taken (tab (λ i. n) n) p.y (replicate n true)) in
    let r = reduce_from n cost t.x t.unique n 0 (reduced free_rows 0 p.v) in
    ccrt_at t.x t.y r.v r.free_rows r.n_free_rows
