-- What the layer above wants of the definition: over a matrix that was stored the boost is that of the matrix's cells;
-- and where all labels are alike the boost is that without labels. Assumes nothing.
use Rattle.std.proofs.Common.{◌≡◌, ℕ, ◌<◌, Bool, true, cond, ◌||◌, eqb, List, ap, zero-add}
use lib.Ieee.{Float, nan, lt}
use Rattle.laws.specs.Tab.{tab_ext}
use Rattle.laws.specs.Fold.{fold_ext}
use Rattle.laws.specs.Scan.{scan_ext, lowest}
use Rattle.laws.specs.Grid.{grid, cell_at, grid-at}
use Rattle.labels.specs.Label.{where_alike}
use Rattle.floats.specs.Single.{◌⊕◌, plus_zero as 0·0, one}
use Rattle.floats_pick.specs.Pick.{larger}
use Rattle.assoc_similarity.specs.Mahalanobis.{normalized, exponential, similarity as shared}
use Rattle.boost_tracker_dlo.specs.declared.dlo.DloSettings.{DloSettings}
use Rattle.boost_tracker_dlo.specs.Dlo.{similarity, threshold, max_s, coefficient, soft, should_boost, varying, boosted, dlo_confidence_boost}

-- the similarity of the distances is of the matrix's own cells alone
shared_ext : (f g : ℕ → ℕ → Float) (boxes tracks i j : ℕ) → ((i j : ℕ) → i < boxes → j < tracks → f i j ≡ g i j) → i < boxes → j < tracks → shared f one boxes i j ≡ shared g one boxes i j
unfolding shared normalized
shared_ext f g boxes tracks i j e hi hj =
    let sums : normalized f one boxes j ≡ normalized g one boxes j =
    fold_ext (λ sum m. sum ⊕ exponential f one m j) (λ sum m. sum ⊕ exponential g one m j) 0·0 boxes (λ sum m b. rw (e m j b hj)) in
    rw (sums, e i j hi hj)

module _ (q : DloSettings) (f g : ℕ → ℕ → Float) (since : ℕ → ℕ) (boxes tracks : ℕ) (e : (i j : ℕ) → i < boxes → j < tracks → f i j ≡ g i j) where
  most_ext : (i : ℕ) → i < boxes → max_s q f since boxes tracks i ≡ max_s q g since boxes tracks i
  unfolding max_s
  most_ext i h = fold_ext _ _ 0·0 tracks (λ m j k. ap (larger m) (e i j h k))

  first_ext : (i : ℕ) → i < boxes → should_boost q f since boxes tracks i ≡ should_boost q g since boxes tracks i
  unfolding should_boost
  first_ext i h =
      let first : lowest (λ j. lt (threshold (since j)) (f i j)) tracks ≡ lowest (λ j. lt (threshold (since j)) (g i j)) tracks =
      scan_ext _ _ 0 tracks (λ j k. ap (lt (threshold (since j))) (e i j h (rw zero-add at k))) in
      rw first

  boosted_ext : (scores : List Float) → boosted q f since boxes tracks scores ≡ boosted q g since boxes tracks scores
  unfolding boosted coefficient soft varying
  boosted_ext scores =
      let plain : coefficient q f since boxes tracks scores ≡ coefficient q g since boxes tracks scores = tab_ext _ _ boxes (λ i h. rw (most_ext i h)) in
      let softer : soft q f since boxes tracks scores ≡ soft q g since boxes tracks scores = tab_ext _ _ boxes (λ i h. rw (most_ext i h)) in
      let varied : (s : List Float) → varying q f since boxes tracks s ≡ varying q g since boxes tracks s = λ s. tab_ext _ _ boxes (λ i h. rw (first_ext i h)) in
      rw (plain, softer, varied (cond q.soft (soft q g since boxes tracks scores) scores))

similarity_ext : (q : DloSettings) (det_bboxes trks confs : List Float) (f g : ℕ → ℕ → Float) (boxes tracks i j : ℕ) → ((i j : ℕ) → i < boxes → j < tracks → f i j ≡ g i j) → i < boxes → j < tracks
    → similarity q det_bboxes trks confs f boxes i j ≡ similarity q det_bboxes trks confs g boxes i j
unfolding similarity
similarity_ext q det_bboxes trks confs f g boxes tracks i j e hi hj = rw (shared_ext f g boxes tracks i j e hi hj)

-- over a matrix that was stored
pub dlo-over : (like : ℕ → ℕ → Bool) (q : DloSettings) (det_bboxes trks confs : List Float) (cell : ℕ → ℕ → Float) (l : List Float) (since : ℕ → ℕ) (boxes tracks : ℕ) (scores : List Float)
    → dlo_confidence_boost like q det_bboxes trks confs (cell_at nan tracks (grid cell boxes tracks l)) since boxes tracks scores ≡ dlo_confidence_boost like q det_bboxes trks confs cell since boxes tracks scores
unfolding dlo_confidence_boost
dlo-over like q det_bboxes trks confs cell l since boxes tracks scores =
    let stored : ℕ → ℕ → Float = cell_at nan tracks (grid cell boxes tracks l) in
    ap (λ (s : List Float). cond (eqb tracks 0 || eqb boxes 0) scores s)
    (boosted_ext q (where_alike like (similarity q det_bboxes trks confs stored boxes) 0·0) (where_alike like (similarity q det_bboxes trks confs cell boxes) 0·0) since boxes tracks
    (λ i j hi hj. ap (λ (x : Float). cond (like i j) x 0·0) (similarity_ext q det_bboxes trks confs stored cell boxes tracks i j (λ m k hm hk. grid-at cell boxes tracks l nan m k hm hk) hi hj)) scores)

-- where all boxes and tracks are alike it is the boost of the Rust, which knows no labels
pub dlo-alike : (like : ℕ → ℕ → Bool) (q : DloSettings) (det_bboxes trks confs : List Float) (mh_dist : ℕ → ℕ → Float) (since : ℕ → ℕ) (boxes tracks : ℕ) (scores : List Float)
    → ((i j : ℕ) → i < boxes → j < tracks → like i j ≡ true)
    → dlo_confidence_boost like q det_bboxes trks confs mh_dist since boxes tracks scores
    ≡ cond (eqb tracks 0 || eqb boxes 0) scores (boosted q (similarity q det_bboxes trks confs mh_dist boxes) since boxes tracks scores)
unfolding dlo_confidence_boost
dlo-alike like q det_bboxes trks confs mh_dist since boxes tracks scores e =
    let sim : ℕ → ℕ → Float = similarity q det_bboxes trks confs mh_dist boxes in
    ap (λ (s : List Float). cond (eqb tracks 0 || eqb boxes 0) scores s)
    (boosted_ext q (where_alike like sim 0·0) sim since boxes tracks (λ i j hi hj. ap (λ (b : Bool). cond b (sim i j) 0·0) (e i j hi hj)) scores)
