-- `carr_dence`, lines 84 to 153 of lapjv.rs. n stands for -1. A row turn is a pass of its outer loop, and rr_cnt counts them.
use Rattle.std.specs.Prelude.{Bool, true, false, cond, ◌&&◌, not, List, ℕ, zero, suc, ◌+◌, ◌-◌, ◌*◌, ltb, get_or, set, Float, Option}
use Rattle.std.specs.Float.{nan}
use Rattle.std.specs.Float.Ieee.{lt, le}
use Rattle.lapjv_definition.specs.Cost.{at, ◌⊖◌, large}
use Rattle.lapjv_definition.specs.Entry.{owner_of, is_free, row_of}
use Rattle.lapjv_definition.specs.declared.Two.{Two}

-- ---- lines 102 to 120: the least reduced cost of a row and the next one, with their columns

abbrev pub two : ℕ → ℕ → Float → Float → Two
two j1 j2 v1 v2 = record { j1 = j1; j2 = j2; v1 = v1; v2 = v2 }

-- column j, whose reduced cost is c
abbrev pub two_step : Float → ℕ → Two → Two
two_step c j t =
    cond (lt c t.v2)
    (cond (le t.v1 c) (two t.j1 j t.v1 c) (two j t.j1 c t.v1))
    t

-- columns j, j + 1, .., m of them
unfoldable pub two_from : ℕ → List Float → ℕ → List Float → ℕ → ℕ → Two → Two
two_from n cost free_i v zero j t = t
two_from n cost free_i v (suc m) j t = two_from n cost free_i v m (j + 1) (two_step (at cost n free_i j ⊖ get_or v j nan) j t)

unfoldable pub carr_two : ℕ → List Float → ℕ → List Float → Two
carr_two n cost free_i v = two_from n cost free_i v (n - 1) 1 (two 0 n (at cost n free_i 0 ⊖ get_or v 0 nan) large)

-- ---- lines 98 to 150: one row turn

pub record Carrying : Type 0 where
  pub current : ℕ
  pub new_free_rows : ℕ
  pub rr_cnt : ℕ
  pub free_rows : List ℕ
  pub x : List ℕ
  pub y : List ℕ
  pub v : List Float

abbrev pub carrying : ℕ → ℕ → ℕ → List ℕ → List ℕ → List ℕ → List Float → Carrying
carrying current new_free_rows rr_cnt free_rows x y v =
    record { current = current; new_free_rows = new_free_rows; rr_cnt = rr_cnt; free_rows = free_rows; x = x; y = y; v = v }

-- lines 134 to 150: free_i takes column j1, and i0, that column's row so far, is free again if there is one: where retry, it has the next turn of this
-- call (current goes back by one), else it waits for the next call of carr_dence or, after the second, for ca_dense
abbrev pub carr_row : ℕ → Bool → ℕ → ℕ → Option ℕ → List Float → Carrying → Carrying
carr_row n retry free_i j1 i0 v s =
    let x = set s.x free_i j1 in
    let y = set s.y j1 free_i in
    cond (is_free i0)
    (carrying (s.current + 1) s.new_free_rows (s.rr_cnt + 1) s.free_rows x y v)
    (cond retry
    (carrying s.current s.new_free_rows (s.rr_cnt + 1) (set s.free_rows s.current (row_of n i0)) x y v)
    (carrying (s.current + 1) (s.new_free_rows + 1) (s.rr_cnt + 1) (set s.free_rows s.new_free_rows (row_of n i0)) x y v))

-- one row turn; s has rr_cnt and current as they are before the turn adds 1 to both
unfoldable pub carr_turn : ℕ → List Float → Carrying → Carrying
carr_turn n cost s =
    let free_i = get_or s.free_rows s.current 0 in
    let t = carr_two n cost free_i s.v in
    let i0 = owner_of n (get_or s.y t.j1 0) in
    let vj1 = get_or s.v t.j1 nan in
    let v1_new = vj1 ⊖ (t.v2 ⊖ t.v1) in
    let v1_lowers = lt v1_new vj1 in
    cond (ltb (s.rr_cnt + 1) ((s.current + 1) * n))
    (cond v1_lowers
    (carr_row n true free_i t.j1 i0 (set s.v t.j1 v1_new) s)
    (cond (not (is_free i0) && ltb t.j2 n)
    (carr_row n false free_i t.j2 (owner_of n (get_or s.y t.j2 0)) s.v s)
    (carr_row n false free_i t.j1 i0 s.v s)))
    (carr_row n false free_i t.j1 i0 s.v s)

-- while current < n_free_rows. The Rust bounds this loop by nothing; here it has fuel, one for each turn. The fuel never runs out: `carr` of `Ends`,
-- in Bounds.antt, says that the loop's test fails at the end.
unfoldable pub carr_from : ℕ → List Float → ℕ → ℕ → Carrying → Carrying
carr_from n cost n_free_rows zero s = s
carr_from n cost n_free_rows (suc fuel) s =
    let r = carr_from n cost n_free_rows fuel (carr_turn n cost s) in
    cond (ltb s.current n_free_rows) r s

abbrev pub carr_dence : ℕ → List Float → ℕ → List ℕ → List ℕ → List ℕ → List Float → Carrying
carr_dence n cost n_free_rows free_rows x y v = carr_from n cost n_free_rows (n_free_rows * n) (carrying 0 0 0 free_rows x y v)
