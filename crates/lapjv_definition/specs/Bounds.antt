-- THE THEOREMS of the assignment, about the definition alone: for every side n from 1 and every list of costs, of any bit patterns. `bounds` and `ends` of
-- proofs/Theorem.antt prove them.
use Rattle.std.specs.Prelude.{◌≡◌, List, ℕ, ◌*◌, ◌-◌, ◌/◌, ◌<◌, ◌≤◌, length, get_or, Float}
use Rattle.lapjv_definition.specs.Ca.{augment_from, Assigned, assigned, ca_from}
use Rattle.lapjv_definition.specs.Carr.{carr_dence}
use Rattle.lapjv_definition.specs.Find.{find_dense}
use Rattle.lapjv_definition.specs.Lapjv.{rounds, lapjv}
use Rattle.lapjv_definition.specs.Path.{Search, search_start, search_from, find_path_dense}
use Rattle.lapjv_definition.specs.Scan.{Scanning, scan_dense}

-- rows and columns are paired one to one: both lists have n entries, x tells the column of each row, and y the row of each column
pub record Paired (n : ℕ) (x y : List ℕ) : Type 0 where
  pub len_x : length x ≡ n
  pub len_y : length y ≡ n
  pub rows : (i : ℕ) → i < n → (get_or x i 0 < n) × (get_or y (get_or x i 0) 0 ≡ i)
  pub cols : (j : ℕ) → j < n → (get_or y j 0 < n) × (get_or x (get_or y j 0) 0 ≡ j)

pub record Bounds (n : ℕ) (cost : List Float) : Type 0 where
  -- each row is paired with exactly one column and each column with exactly one row, and the two lists tell the same pairs
  pub pairs : Paired n (lapjv n cost).x (lapjv n cost).y
  -- at most 2 n (n - 1) row turns
  pub turns : (lapjv n cost).turns ≤ 2 * n * (n - 1)
  -- at most n (n - 1) / 2 column scans
  pub scans : (lapjv n cost).scans ≤ n * (n - 1) / 2
  -- one row and one column: no turns
  pub side-one : n ≡ 1 → (lapjv n cost).turns ≡ 0
  -- the Rust's last test, `if ret > 0`, never makes it an error
  pub no_error : (lapjv n cost).ret ≡ 0

-- ---- No loop is cut short by its fuel: `carr`, `scan`, `search` and `augment` say of the four loops that the loop's own test fails at the end, so that more
-- fuel would change nothing; `find`, `passes` and `level`, that every call is as those ask.

-- x and y before a pass of ca_dense for free_row
pub record Partial (n free_row : ℕ) (x y : List ℕ) : Type 0 where
  pub row : free_row < n
  pub len_x : length x ≡ n
  pub len_y : length y ≡ n
  -- the row of a column knows that column
  pub back : (j : ℕ) → j < n → get_or y j 0 < n → get_or x (get_or y j 0) 0 ≡ j
  -- free_row has no column
  pub alone : (j : ℕ) → j < n → get_or y j 0 ≡ free_row → ⊥
  -- one column, at least, has no row
  pub col : ℕ
  pub col-in : col < n
  pub col_free : n ≤ get_or y col 0

-- what the first row_n passes of ca_dense leave, in the call that lapjv makes
abbrev pub passed : ℕ → List Float → ℕ → Assigned
passed n cost row_n = let b = rounds n cost in ca_from n cost b.free_rows row_n 0 (assigned b.x b.y b.v 0)

-- what the first m passes of find_path_dense's search leave
abbrev pub searched : ℕ → List Float → ℕ → List ℕ → List Float → ℕ → Search
searched n cost free_row y v m = search_from n cost y v m (search_start n cost free_row v)

pub record Ends (n : ℕ) (cost : List Float) : Type 0 where
  -- carr_dence: while current < n_free_rows
  pub carr : (n_free_rows : ℕ) (free_rows x y : List ℕ) (v : List Float) → n_free_rows ≤ (carr_dence n cost n_free_rows free_rows x y v).current
  -- scan_dense: while lo != hi, unless it returned a column; for lo ≤ hi ≤ n, as every call has them by `level` and `find`
  pub scan : (lo : ℕ) (y : List ℕ) (v : List Float) (s : Scanning) → lo ≤ s.hi → s.hi ≤ n
      → n ≤ (scan_dense n cost lo y v s).st.final_j → (scan_dense n cost lo y v s).lo ≡ (scan_dense n cost lo y v s).st.hi
  -- find_dense hands on lo < hi ≤ n
  pub find : (lo : ℕ) (d : List Float) (cols : List ℕ) → lo < n → (lo < (find_dense n lo d cols).hi) × ((find_dense n lo d cols).hi ≤ n)
  -- each pass of ca_dense begins as the next three theorems ask
  pub passes : (row_n : ℕ) → row_n < (rounds n cost).ret → Partial n (get_or (rounds n cost).free_rows row_n 0) (passed n cost row_n).x (passed n cost row_n).y
  -- find_path_dense: each pass begins with lo == hi, so that find_dense is called, and it is called below n
  pub level : (free_row : ℕ) (x y : List ℕ) (v : List Float) → Partial n free_row x y → (m : ℕ) → n ≤ (searched n cost free_row y v m).st.final_j
      → ((searched n cost free_row y v m).lo ≡ (searched n cost free_row y v m).st.hi) × ((searched n cost free_row y v m).lo < n)
  -- find_path_dense: while final_j == -1
  pub search : (free_row : ℕ) (x y : List ℕ) (v : List Float) → Partial n free_row x y → (find_path_dense n cost free_row y v).final_j < n
  -- ca_dense: while i != free_row
  pub augment : (free_row : ℕ) (x y : List ℕ) (v : List Float) → Partial n free_row x y
      → (augment_from n (find_path_dense n cost free_row y v).pred free_row n n (find_path_dense n cost free_row y v).final_j x y).i ≡ free_row
