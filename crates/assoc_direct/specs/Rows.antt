-- The pairs of match_detections by rows: at most one for each box, in their order, so that a track for each box is the whole of them; and how they are written to two lists.
use Rattle.std.specs.Prelude.{◌≡◌, List, Bool, cond, ◌&&◌, ℕ, ◌+◌, ◌*◌, ◌≤◌, ◌<◌, ltb, Float, length, get_or, set}
use Rattle.laws.specs.Tab.{tab}
use Rattle.laws.specs.Sieve.{maybe}
use Rattle.laws.specs.Joined.{joined}
use Rattle.laws.specs.Last.{last_where}
use Rattle.laws.specs.Over.{Pushed}
use Rattle.assoc_direct.specs.Simple.{Pair, pair, boxes_of, tracks_of, mask}
use Rattle.assoc_direct.specs.Direct.{is_matrix}

-- ---- sides

-- a matrix of n rows and m columns
pub record Sized (n m cells : ℕ) : Type 0 where
  pub few-rows : n ≤ 255
  pub few-cols : m ≤ 255
  pub long : cells ≡ n * m

-- n entries, all of them z
pub record Clean {A : Type 0} (n : ℕ) (z : A) (l : List A) : Type 0 where
  pub same : length l ≡ n
  pub cells : (i : ℕ) → i < n → get_or l i z ≡ z

-- ---- pairs by rows: a column for each row, ncols for none

-- the pairs of n rows, f the column of a row
unfoldable pub pairs_of : ℕ → (ℕ → ℕ) → ℕ → List Pair
pairs_of ncols f n = joined (λ i. maybe (ltb (f i) ncols) (pair i (f i))) n

-- the pairs that a list of columns holds
abbrev pub held : ℕ → List ℕ → List Pair
held ncols partner = pairs_of ncols (λ i. get_or partner i 0) (length partner)

-- a row's column on the direct path
abbrev pub direct_column : List Float → ℕ → Float → ℕ → ℕ
direct_column cost ncols threshold i = last_where (mask cost ncols threshold i) ncols ncols

-- the columns of the direct path, the last above the threshold where a row has several; what is no matrix leaves the list as it was
unfoldable pub direct_columns : List Float → ℕ → Float → List ℕ → List ℕ
direct_columns cost ncols threshold partner =
    let n = length partner in
    cond (is_matrix n ncols (length cost)) (tab (direct_column cost ncols threshold) n) partner

-- ---- pairs written to two lists

-- j is a column, and both lists have the place k
abbrev pub putting : ℕ → ℕ → ℕ → List ℕ → List ℕ → Bool
putting j ncols k boxes tracks = (ltb j ncols && ltb k (length boxes)) && ltb k (length tracks)

-- a pair stored at place k, or none
pub record Put (b : Bool) (k : ℕ) (p : Pair) (boxes tracks : List ℕ) (r : ℕ) (boxes' tracks' : List ℕ) : Type 0 where
  pub many : r ≡ cond b (k + 1) k
  pub boxes_are : boxes' ≡ cond b (set boxes k p.box) boxes
  pub tracks_are : tracks' ≡ cond b (set tracks k p.track) tracks

pub record PairRoom (ps : List Pair) (boxes tracks : ℕ) : Type 0 where
  pub boxes_fit : length ps ≤ boxes
  pub tracks_fit : length ps ≤ tracks

-- the pairs over the front of two lists
pub record Wrote (ps : List Pair) (boxes tracks : List ℕ) (r : ℕ) (boxes' tracks' : List ℕ) : Type 0 where
  pub boxes_are : Pushed boxes (boxes_of ps) r boxes'
  pub tracks_are : Pushed tracks (tracks_of ps) r tracks'
