-- The direct path of `match_detections`: document 01, Pairs. What deciding and writing it says and leaves.
use Rattle.std.specs.Prelude.{Bool, true, false, cond, not, ◌&&◌, List, ℕ, ◌*◌, min, eqb, leb, Float, length, Option, Some, None}
use Rattle.laws.specs.Over.{over}
use Rattle.refusals.specs.Refusal.{too_many}
use Rattle.assoc_direct.specs.Simple.{boxes_of, tracks_of, simple, simple_matches}

-- ---- decided

-- as many costs as the sides say, and no side above 255
unfoldable pub is_matrix : ℕ → ℕ → ℕ → Bool
is_matrix nrows ncols cells = not (too_many nrows ncols) && eqb cells (nrows * ncols)

unfoldable pub is_direct : List Float → ℕ → ℕ → Float → Bool
is_direct cost nrows ncols threshold = is_matrix nrows ncols (length cost) && simple cost nrows ncols threshold

-- ---- written

-- whether the path is taken, how many pairs it has, and the two halves of the pairs in lent memory
pub record DirectCall : Type 0 where
  pub taken : Bool
  pub pairs : ℕ
  pub pair_boxes : List ℕ
  pub pair_tracks : List ℕ

abbrev pub direct_call_of : Bool → ℕ → List ℕ → List ℕ → DirectCall
direct_call_of taken pairs pair_boxes pair_tracks = record { taken = taken; pairs = pairs; pair_boxes = pair_boxes; pair_tracks = pair_tracks }

-- as an answer says it
abbrev pub direct_call_with : Option ℕ → List ℕ → List ℕ → DirectCall
direct_call_with (Some pairs) pair_boxes pair_tracks = direct_call_of true pairs pair_boxes pair_tracks
direct_call_with None pair_boxes pair_tracks = direct_call_of false 0 pair_boxes pair_tracks

-- where it is taken the pairs are over the fronts; elsewhere there are none, and nothing is written
unfoldable pub direct_call : List Float → ℕ → ℕ → Float → List ℕ → List ℕ → DirectCall
direct_call cost nrows ncols threshold pair_boxes pair_tracks =
    let ps = simple_matches cost nrows ncols threshold in
    cond (simple cost nrows ncols threshold)
    (direct_call_of true (length ps) (over (boxes_of ps) pair_boxes) (over (tracks_of ps) pair_tracks))
    (direct_call_of false 0 pair_boxes pair_tracks)

-- the sides are those of the costs, and each list has as many places as the smaller side
unfoldable pub fitting : ℕ → ℕ → ℕ → ℕ → ℕ → Bool
fitting nrows ncols cells boxes tracks = is_matrix nrows ncols cells && (leb (min nrows ncols) boxes && leb (min nrows ncols) tracks)

-- the same of any sides and lists: where they do not fit it is not taken
unfoldable pub direct_pairs : List Float → ℕ → ℕ → Float → List ℕ → List ℕ → DirectCall
direct_pairs cost nrows ncols threshold pair_boxes pair_tracks =
    cond (fitting nrows ncols (length cost) (length pair_boxes) (length pair_tracks))
    (direct_call cost nrows ncols threshold pair_boxes pair_tracks)
    (direct_call_of false 0 pair_boxes pair_tracks)
