-- What only private contracts cite: the boost as the code works it, over the candidates' corners and largest overlaps, and what the loops ask of their callers.
use Rattle.std.specs.Prelude.{◌≡◌, Bool, true, false, cond, List, [], ◌∷◌, ℕ, ◌+◌, ◌*◌, ◌≤◌, ◌<◌, eqb, get_or, length, set, Float}
use Rattle.std.specs.Float.{nan}
use Rattle.std.specs.Float.Ieee.{lt, le, eq}
use Rattle.laws.specs.Fold.{fold}
use Rattle.laws.specs.Packed.{packed}
use Rattle.floats_pick.specs.Pick.{larger}
use Rattle.floats.specs.Single.{◌⊖◌, one}
use Rattle.assoc_similarity.specs.Overlap.{iou_batch}
use Rattle.boost_tracker_duo.specs.Duo.{iou_limit, neg_infinity, boost_candidates, masked}

-- the corners of box idx, and those of the candidates over the front of out
abbrev pub box_of : List Float → ℕ → List Float
box_of detections idx = get_or detections (idx * 4) nan ∷ get_or detections (idx * 4 + 1) nan ∷ get_or detections (idx * 4 + 2) nan ∷ get_or detections (idx * 4 + 3) nan ∷ []

abbrev pub boxes_of : List Float → List ℕ → List Float → List Float
boxes_of detections candidates out = packed (λ i. box_of detections (get_or candidates i 0)) 4 out (length candidates)

-- bdiou over the corners of the candidates
unfoldable pub own : List Float → ℕ → ℕ → Float
own bboxes i j = cond (eqb i j) (iou_batch bboxes bboxes i j ⊖ one) (iou_batch bboxes bboxes i j)

unfoldable pub own_max : List Float → ℕ → ℕ → Float
own_max bboxes count i = fold (λ most j. larger most (own bboxes i j)) neg_infinity count

unfoldable pub conf_with : Float → Float → Float → Float → Float
conf_with most overlap max score = cond (lt iou_limit overlap) (cond (lt iou_limit max) (larger most score) most) most

unfoldable pub conf_row : (ℕ → Float) → List Float → List ℕ → List Float → Float
conf_row row max candidates scores = fold (λ most j. conf_with most (row j) (get_or max j nan) (get_or scores (get_or candidates j 0) nan)) neg_infinity (length candidates)

unfoldable pub most_of : List Float → List Float → List ℕ → List Float → ℕ → Bool
most_of bboxes max candidates scores i =
    eq (get_or scores (get_or candidates i 0) nan) (larger (conf_row (own bboxes i) max candidates scores) (get_or scores (get_or candidates i 0) nan))

unfoldable pub remains : List Float → List Float → List ℕ → List Float → ℕ → Bool
remains bboxes max candidates scores i =
    cond (le (get_or max i nan) iou_limit) true (cond (lt iou_limit (get_or max i nan)) (most_of bboxes max candidates scores i) false)

-- the score raised at each marked candidate in turn
unfoldable pub raised_by : List Bool → List ℕ → Float → List Float → List Float
raised_by marks candidates raised scores = fold (λ out i. cond (get_or marks i false) (set out (get_or candidates i 0) raised) out) scores (length candidates)

-- the candidates are indices of boxes, given by the length of their corners; and of scores
abbrev pub Listed : List ℕ → ℕ → Type 0
Listed candidates detections = (i : ℕ) → i < length candidates → get_or candidates i 0 * 4 + 4 ≤ detections

abbrev pub Scored : List ℕ → ℕ → Type 0
Scored candidates scores = (i : ℕ) → i < length candidates → get_or candidates i 0 < scores

-- distinct indices of boxes, at most 255
pub record Candidates (candidates : List ℕ) (detections scores : ℕ) : Type 0 where
  pub few : length candidates ≤ 255
  pub detections_fit : detections ≡ scores * 4
  pub scored : Scored candidates scores
  pub apart : (i j : ℕ) → i < length candidates → j < length candidates → get_or candidates i 0 ≡ get_or candidates j 0 → i ≡ j

pub record DuoReady (tracks detections distance scores : ℕ) : Type 0 where
  pub few : scores ≤ 255
  pub detections_fit : detections ≡ scores * 4
  pub room : scores * tracks ≤ distance

-- the scores where the early returns on frames, boxes and tracks are passed
unfoldable pub duo_of : Float → List Float → (ℕ → ℕ → Float) → ℕ → List Float → List Float
duo_of thresh detections mh_dist tracks scores =
    let candidates : List ℕ = boost_candidates mh_dist thresh (length scores) tracks scores in
    cond (eqb (length candidates) 0) scores (masked detections scores candidates thresh (length scores))
