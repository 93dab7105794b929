-- What holds between the steps, as private contracts cite it.
use Rattle.std.specs.Prelude.{◌≡◌, cond, List, ℕ, zero, suc, ◌+◌, ◌-◌, ◌*◌, ◌<◌, ◌≤◌, ltb, length, get_or, Float}
use Rattle.laws.specs.Total.{total, is}
use Rattle.lapjv_definition.specs.Ca.{Assigned}

-- the side is 1 to 255, and the costs are n × n
pub record Square (n : ℕ) (cost : List Float) : Type 0 where
  pub some : 1 ≤ n
  pub small : n ≤ 255
  pub whole : length cost ≡ n * n

-- a call that is accepted
pub record Ready (n : ℕ) (cost : List Float) (x y : List ℕ) : Type 0 where
  pub square : Square n cost
  pub rows : length x ≡ n
  pub cols : length y ≡ n

-- 1 where z is a row, and 0 where it is n
unfoldable pub taken : ℕ → ℕ → ℕ
taken n z = cond (ltb z n) 1 0

-- 0 + 1 + .. + (t - 1)
unfoldable pub tri : ℕ → ℕ
tri zero = 0
tri (suc t) = tri t + t

-- a row that a path may go back to: its start, or the row of one of the first b columns of cols
pub data From (y cols : List ℕ) (start b i : ℕ) : Type 0 where
  at-start : i ≡ start → From y cols start b i
  via : (k : ℕ) → k < b → i ≡ get_or y (get_or cols k 0) 0 → From y cols start b i

-- the path stands at column j, whose entry in y is to be written, with columns of cols before b still to come
pub record Hole (n start : ℕ) (pred cols : List ℕ) (target : (ℕ → ℕ) → ℕ) (b j : ℕ) (x y : List ℕ) : Type 0 where
  pub len_x : length x ≡ n
  pub len_y : length y ≡ n
  pub col : j < n
  pub starts : start < n
  pub count : (w : ℕ → ℕ) → total w y n 0 + w start ≡ target w + w (get_or y j 0)
  pub back : (k : ℕ) → k < n → (k ≡ j → ⊥) → get_or y k 0 < n → get_or x (get_or y k 0) 0 ≡ k
  pub open_start : (k : ℕ) → k < n → (k ≡ j → ⊥) → get_or y k 0 ≡ start → ⊥
  pub apart : (k : ℕ) → k < b → get_or cols k 0 ≡ j → ⊥
  pub cols-in : (k : ℕ) → k < b → get_or cols k 0 < n
  pub held : (k : ℕ) → k < b → get_or y (get_or cols k 0) 0 < n
  pub once : (k k' : ℕ) → k < b → k' < b → get_or cols k 0 ≡ get_or cols k' 0 → k ≡ k'
  pub preds : (k : ℕ) → k < b → From y cols start k (get_or pred (get_or cols k 0) 0)
  pub pred-j : From y cols start b (get_or pred j 0)

-- a path that ends within m steps
pub record Holed (n start : ℕ) (pred : List ℕ) (m j : ℕ) (x y : List ℕ) : Type 0 where
  pub cols : List ℕ
  pub target : (ℕ → ℕ) → ℕ
  pub b : ℕ
  pub less : b < m
  pub hole : Hole n start pred cols target b j x y

-- The search for a path, at a place of its columns: those before lo are scanned, those before hi are as near as the nearest, and have rows.
pub record SearchOk (n start : ℕ) (y : List ℕ) (lo hi : ℕ) (cols pred : List ℕ) : Type 0 where
  pub starts : start < n
  pub len_cols : length cols ≡ n
  pub len_pred : length pred ≡ n
  pub order : lo ≤ hi
  pub top : hi ≤ n
  pub below : (k : ℕ) → k < n → get_or cols k 0 < n
  pub once : (k k' : ℕ) → k < n → k' < n → get_or cols k 0 ≡ get_or cols k' 0 → k ≡ k'
  pub held : (k : ℕ) → k < hi → get_or y (get_or cols k 0) 0 < n
  pub preds : (k : ℕ) → k < lo → From y cols start k (get_or pred (get_or cols k 0) 0)
  pub ahead : (k : ℕ) → lo ≤ k → k < n → From y cols start lo (get_or pred (get_or cols k 0) 0)

-- f is a free column that the search has reached
pub record FoundOk (n start : ℕ) (y : List ℕ) (lo : ℕ) (cols pred : List ℕ) (f : ℕ) : Type 0 where
  pub col : f < n
  pub vacant : n ≤ get_or y f 0
  pub from : From y cols start lo (get_or pred f 0)

pub record Searching (n : ℕ) (y : List ℕ) (lo hi : ℕ) (cols pred : List ℕ) : Type 0 where
  pub start : ℕ
  pub ok : SearchOk n start y lo hi cols pred

-- ca_dense before its pass r: each row is once some column's or once free, and the scans are few
pub record CaOk (n n_free_rows : ℕ) (free_rows : List ℕ) (r : ℕ) (s : Assigned) : Type 0 where
  pub len_x : length s.x ≡ n
  pub len_y : length s.y ≡ n
  pub once : (i : ℕ) → i < n → total (is i) s.y n 0 + total (is i) free_rows (n_free_rows - r) r ≡ 1
  pub back : (j : ℕ) → j < n → get_or s.y j 0 < n → get_or s.x (get_or s.y j 0) 0 ≡ j
  pub sum : total (taken n) s.y n 0 + (n_free_rows - r) ≡ n
  pub scans : s.scans ≤ tri (total (taken n) s.y n 0)
