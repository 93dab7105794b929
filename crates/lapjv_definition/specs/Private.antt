-- What the contracts of private functions cite where the port goes another way than the Rust's text: a row turn in four steps. `turn_is` of
-- proofs/CarrLaws.antt shows that it comes to the same.
use Rattle.std.specs.Prelude.{Bool, true, false, cond, List, ℕ, ◌+◌, ◌*◌, ltb, get_or, set, Float, Option, ◌≡◌}
use Rattle.std.specs.Float.{nan}
use Rattle.std.specs.Float.Ieee.{lt}
use Rattle.lapjv_definition.specs.Carr.{Carrying, carrying, carr_two}
use Rattle.lapjv_definition.specs.Cost.{◌⊖◌}
use Rattle.lapjv_definition.specs.Entry.{owner_of}
use Rattle.lapjv_definition.specs.Path.{Search}
use Rattle.lapjv_definition.specs.Scan.{Scanning, scanning, Scans}
use Rattle.lapjv_definition.specs.declared.Pick.{Pick}

abbrev pub pick : ℕ → Bool → Pick
pick j retry = record { j = j; retry = retry }

-- which column the row takes, and whether the row that had it has the next turn: early is `rr_cnt < current * n`, v1_lowers as the Rust
-- has it, and the last two Bools are `i0 >= 0` and `j2 >= 0`
unfoldable pub carr_pick : Bool → Bool → Bool → Bool → ℕ → ℕ → Pick
carr_pick early v1_lowers held second j1 j2 =
    cond early
    (cond v1_lowers
    (pick j1 true)
    (cond held (cond second (pick j2 false) (pick j1 false)) (pick j1 false)))
    (pick j1 false)

-- the three ends of a turn: i0, the row of column j so far, is there or not, and has another turn in this round or not
abbrev pub carr_by : Bool → Bool → ℕ → ℕ → ℕ → List Float → Carrying → Carrying
carr_by held retry free_i j i0 v s =
    let x = set s.x free_i j in
    let y = set s.y j free_i in
    cond held
    (cond retry
    (carrying s.current s.new_free_rows (s.rr_cnt + 1) (set s.free_rows s.current i0) x y v)
    (carrying (s.current + 1) (s.new_free_rows + 1) (s.rr_cnt + 1) (set s.free_rows s.new_free_rows i0) x y v))
    (carrying (s.current + 1) s.new_free_rows (s.rr_cnt + 1) s.free_rows x y v)

-- the end of a turn, with i0 read at the column that the row takes
unfoldable pub carr_take : ℕ → Bool → ℕ → ℕ → List Float → Carrying → Carrying
carr_take n retry free_i j v s = let i0 = get_or s.y j 0 in carr_by (ltb i0 n) retry free_i j i0 v s

-- one row turn by these two
unfoldable pub carr_step : ℕ → List Float → Carrying → Carrying
carr_step n cost s =
    let free_i = get_or s.free_rows s.current 0 in
    let t = carr_two n cost free_i s.v in
    let vj1 = get_or s.v t.j1 nan in
    let v1_new = vj1 ⊖ (t.v2 ⊖ t.v1) in
    let p = carr_pick (ltb (s.rr_cnt + 1) ((s.current + 1) * n)) (lt v1_new vj1) (ltb (get_or s.y t.j1 0) n) (ltb t.j2 n) t.j1 t.j2 in
    carr_take n p.retry free_i p.j (cond p.retry (set s.v p.j v1_new) s.v) s

-- ---- what the steps of a search leave, as the code has it: the free column that was found is an option, and not n where there is none

pub record Scanned (n : ℕ) (t : Scanning) (d : List Float) (cols pred : List ℕ) (hi : ℕ) (found : Option ℕ) : Type 0 where
  pub left : scanning d cols pred hi t.final_j ≡ t
  pub column : found ≡ owner_of n t.final_j

pub record AllScanned (n : ℕ) (a : Scans) (ends : ℕ → Scans) (found : Option ℕ) : Type 0 where
  pub left : ends a.st.final_j ≡ a
  pub column : found ≡ owner_of n a.st.final_j

pub record Searched (n : ℕ) (s : Search) (ends : ℕ → Search) (found : Option ℕ) : Type 0 where
  pub left : ends s.st.final_j ≡ s
  pub column : found ≡ owner_of n s.st.final_j
