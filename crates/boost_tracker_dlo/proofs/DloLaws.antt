-- The boost a row at a time is the definition's boost, part after part. Assumes nothing.
use Rattle.std.proofs.Common.{◌≡◌, ℕ, ◌+◌, ◌-◌, ◌*◌, ◌<◌, Bool, true, false, cond, not, ◌||◌, eqb, List, [], ◌∷◌, length, get_or, get_or-take, get_or-drop, take, drop, sym, refl, ap, ◌∙◌, zero-add, arith, eq-eqb, ne_eqb, Result, Ok, Err}
use Rattle.std.specs.Bool.{⊤}
use native.Mathlib.Decide.{ℕ_discrete}
use lib.Ieee.{Float, nan, lt}
use Rattle.laws.specs.Tab.{tab, tab-at, tab_ext, length-tab}
use Rattle.laws.specs.Fold.{fold_ext}
use Rattle.laws.specs.Scan.{scan_ext, lowest}
use Rattle.laws.specs.Grid.{grid, cell_at, grid-at}
use Rattle.labels.specs.Label.{same_label, label_at, alike, where_alike}
use Rattle.floats_pick.specs.Pick.{larger}
use Rattle.floats.specs.Single.{plus_zero as 0·0, one}
use Rattle.assoc_similarity.specs.Overlap.{iou_batch, soft_biou_batch}
use Rattle.assoc_similarity.specs.Shape.{shape_similarity_v1, shape_similarity_v2}
use Rattle.assoc_similarity.specs.Mahalanobis.{mh_dist_similarity}
use Rattle.refusals.specs.declared.refusal.Refusal.{Refusal}
use Rattle.assoc_similarity.specs.Sizes.{after}
use Rattle.boost_tracker_dlo.specs.declared.dlo.DloSettings.{DloSettings}
use Rattle.boost_tracker_dlo.specs.Dlo.{similarity, threshold, max_s, coefficient, soft, should_boost, varying, boosted, dlo_confidence_boost}
use Rattle.boost_tracker_dlo.specs.Private.{shape_row, third, row_similarity, alike_row, most_of, softened, varied, row_score, boosted_score, mhd_left}
use Rattle.boost_tracker_boosts.proofs.OneRow.{one-iou}
use Rattle.boost_tracker_dlo.proofs.RowLaws.{one-soft, one_v1, one_v2}

-- ---- a row of similarities

pub off : (b : Bool) → not b ≡ true → b ≡ false
off true e = sym e
off false e = refl

pub on : (b : Bool) → not b ≡ false → b ≡ true
on true e = refl
on false e = sym e

module _ (q : DloSettings) (det trks confs : List Float) (mhd : ℕ → Float) (n : ℕ) where
  pub plain_row : q.rich ≡ false → tab (iou_batch det trks 0) n ≡ tab (row_similarity q det trks confs mhd) n
  unfolding row_similarity
  plain_row e = tab_ext _ _ n (λ j h. rw e)

  pub rich_row-is : (sb sh : List Float) {out : List Float} → q.rich ≡ true → sb ≡ tab (soft_biou_batch det trks confs 0) n → sh ≡ tab (shape_row q.corrected det trks) n
      → out ≡ tab (λ j. third (mhd j) (get_or sh j nan) (get_or sb j nan)) (length sh) → out ≡ tab (row_similarity q det trks confs mhd) n
  unfolding row_similarity
  rich_row-is sb sh e b s o =
      let long : length sh ≡ n = ap length s ∙ length-tab _ n in
      o ∙ ap (tab (λ j. third (mhd j) (get_or sh j nan) (get_or sb j nan))) long
      ∙ tab_ext _ _ n (λ j h. rw (e, s, b, tab-at (shape_row q.corrected det trks) n j nan h, tab-at (soft_biou_batch det trks confs 0) n j nan h))

-- the row of the distances, read as a part of the matrix
pub part_row : (q : DloSettings) (det trks confs mhd : List Float) (at n : ℕ) {row : List Float}
    → row ≡ tab (row_similarity q det trks confs (λ j. get_or (take (at + n - at) (drop at mhd)) j nan)) n → row ≡ tab (row_similarity q det trks confs (λ j. get_or mhd (at + j) nan)) n
unfolding row_similarity
part_row q det trks confs mhd at n e =
    e ∙ tab_ext _ _ n (λ j h. ap (λ (m : Float). cond q.rich (third m (shape_row q.corrected det trks j) (soft_biou_batch det trks confs 0 j)) (iou_batch det trks 0 j))
    (get_or-take _ (drop at mhd) j nan (omega (arith, h)) ∙ get_or-drop at mhd j nan))

-- the cells of tracks of another label set to 0
pub alike-row-is : (label : ℕ) (labels : List ℕ) (f : ℕ → Float) (n : ℕ) {row out : List Float} → row ≡ tab f n
    → out ≡ tab (λ j. cond (same_label label (label_at labels j)) (get_or row j nan) 0·0) (length row) → out ≡ tab (alike_row label labels f) n
alike-row-is label labels f n {row} {out} r o =
    let long : length row ≡ n = ap length r ∙ length-tab f n in
    o ∙ rw (long, r) (tab_ext _ _ n (λ j h. rw (tab-at f n j nan h)))

-- ---- the row of box i

module _ (q : DloSettings) (detections trks confs distance : List Float) (boxes tracks : ℕ) where
  abbrev mhd : List Float
  mhd = mhd_left q.rich boxes tracks distance

  cell-is : (i j : ℕ) → i < boxes → j < tracks
      → row_similarity q (take 4 (drop (i * 4) detections)) trks confs (λ j. get_or mhd (i * tracks + j) nan) j ≡ similarity q detections trks confs (cell_at nan tracks distance) boxes i j
  unfolding row_similarity similarity mhd_left
  cell-is i j hi hj = by_cases q.rich q.corrected
    where
      part : List Float
      part = take 4 (drop (i * 4) detections)

      m : ℕ → ℕ → Float
      m = mh_dist_similarity distance one boxes tracks

      by_cases : (rich corrected : Bool)
          → cond rich (third (get_or (cond rich (grid m boxes tracks distance) distance) (i * tracks + j) nan) (shape_row corrected part trks j) (soft_biou_batch part trks confs 0 j)) (iou_batch part trks 0 j)
          ≡ cond rich (third (m i j) (cond corrected (shape_similarity_v2 detections trks i j) (shape_similarity_v1 detections trks i j)) (soft_biou_batch detections trks confs i j)) (iou_batch detections trks i j)
      by_cases true true = rw (grid-at m boxes tracks distance nan i j hi hj, one_v2 detections i trks j, one-soft detections i trks confs j)
      by_cases true false = rw (grid-at m boxes tracks distance nan i j hi hj, one_v1 detections i trks j, one-soft detections i trks confs j)
      by_cases false corrected = one-iou detections i trks j

-- ---- a row's score is of its cells alone

row_ext : (q : DloSettings) (row row' : ℕ → Float) (since : ℕ → ℕ) (n : ℕ) (score : Float) → ((j : ℕ) → j < n → row j ≡ row' j) → row_score q row since n score ≡ row_score q row' since n score
unfolding row_score softened varied
row_ext q row row' since n score e =
    let most : most_of row n ≡ most_of row' n = fold_ext (λ m j. larger m (row j)) (λ m j. larger m (row' j)) 0·0 n (λ m j h. ap (larger m) (e j h)) in
    let first : lowest (λ j. lt (threshold (since j)) (row j)) n ≡ lowest (λ j. lt (threshold (since j)) (row' j)) n =
    scan_ext _ _ 0 n (λ j h. ap (lt (threshold (since j))) (e j (rw zero-add at h))) in
    rw (most, first)

pub score-is : (q : DloSettings) (f : ℕ → Float) (since : ℕ → ℕ) (m n : ℕ) (score : Float) {row : List Float} → row ≡ tab f m → m ≡ n
    → row_score q (λ j. get_or row j nan) since (length row) score ≡ row_score q f since n score
score-is q f since m n score {row} e k =
    let long : length row ≡ n = ap length e ∙ length-tab f m ∙ k in
    rw long (row_ext q (λ j. get_or row j nan) f since n score (λ j h. rw (e, k) (tab-at f n j nan h)))

-- ---- the parts in a row

module _ (q : DloSettings) (sim : ℕ → ℕ → Float) (since : ℕ → ℕ) (boxes tracks : ℕ) (scores : List Float) (size : length scores ≡ boxes) where
  row_by_row : tab (λ i. row_score q (sim i) since tracks (get_or scores i nan)) boxes ≡ boosted q sim since boxes tracks scores
  unfolding boosted coefficient soft varying should_boost max_s row_score softened varied
  row_by_row = by_cases q.soft refl q.varying refl
    where
      by_cases : (s : Bool) → q.soft ≡ s → (v : Bool) → q.varying ≡ v → tab (λ i. row_score q (sim i) since tracks (get_or scores i nan)) boxes ≡ boosted q sim since boxes tracks scores
      by_cases true e true f = rw (e, f) (tab_ext _ _ boxes (λ i h. rw (tab-at _ boxes i nan h)))
      by_cases true e false f = rw (e, f)
      by_cases false e true f = rw (e, f)
      by_cases false e false f = rw (e, f)

no-scores : (f : ℕ → Float) (l : List Float) → length l ≡ 0 → tab f 0 ≡ l
unfolding tab
no-scores f [] e = refl
no-scores f (x ∷ l) e = absurd (omega arith)

module _ (q : DloSettings) (detections trks confs distance mhd : List Float) (since box_labels track_labels : List ℕ) (boxes tracks : ℕ) (scores : List Float)
    (size : length scores ≡ boxes) (long : length since ≡ tracks) (left : mhd ≡ mhd_left q.rich boxes tracks distance) where
  abbrev sim : ℕ → ℕ → Float
  sim = where_alike (alike same_label box_labels track_labels) (similarity q detections trks confs (cell_at nan tracks distance) boxes) 0·0

  rows_are : tab (λ i. boosted_score q detections trks confs mhd since (label_at box_labels i) track_labels i (get_or scores i nan)) boxes ≡ boosted q sim (λ j. get_or since j 0) boxes tracks scores
  unfolding boosted_score
  rows_are =
      rw (left, long)
      (tab_ext _ _ boxes (λ i h. row_ext q _ (sim i) (λ j. get_or since j 0) tracks (get_or scores i nan)
      (λ j k. ap (λ (x : Float). cond (same_label (label_at box_labels i) (label_at track_labels j)) x 0·0) (cell-is q detections trks confs distance boxes tracks i j h k)))
      ∙ row_by_row q sim (λ j. get_or since j 0) boxes tracks scores size)

  pub boost_is : (tracks ≡ 0 → ⊥) → tab (λ i. boosted_score q detections trks confs mhd since (label_at box_labels i) track_labels i (get_or scores i nan)) (length scores)
      ≡ dlo_confidence_boost (alike same_label box_labels track_labels) q detections trks confs (cell_at nan tracks distance) (λ j. get_or since j 0) boxes tracks scores
  unfolding dlo_confidence_boost
  boost_is some = rw (size, ne_eqb tracks 0 some) (by_cases (ℕ_discrete boxes 0))
    where
      by_cases : Dec (boxes ≡ 0) → tab (λ i. boosted_score q detections trks confs mhd since (label_at box_labels i) track_labels i (get_or scores i nan)) boxes
          ≡ cond (false || eqb boxes 0) scores (boosted q sim (λ j. get_or since j 0) boxes tracks scores)
      by_cases (yes e) = rw (eq-eqb boxes 0 e, e) (no-scores _ scores (size ∙ e))
      by_cases (no e) = rw (ne_eqb boxes 0 e) rows_are

-- with no tracks nothing is boosted
pub boost_none : (like : ℕ → ℕ → Bool) (q : DloSettings) (detections trks confs : List Float) (mh_dist : ℕ → ℕ → Float) (since : ℕ → ℕ) (boxes tracks : ℕ) (scores : List Float) → tracks ≡ 0
    → scores ≡ dlo_confidence_boost like q detections trks confs mh_dist since boxes tracks scores
unfolding dlo_confidence_boost
boost_none like q detections trks confs mh_dist since boxes tracks scores e = rw (eq-eqb tracks 0 e)

-- ---- an accepted call

module _ (q : DloSettings) (distance : List Float) (boxes tracks : ℕ) where
  pub mhd_accepted : {out : List Float} {r : Result ⊤ Refusal} → r ≡ Ok tt → out ≡ mhd_left q.rich boxes tracks distance
      → out ≡ cond q.rich (after r (mh_dist_similarity distance one boxes tracks) boxes tracks distance) distance
  unfolding mhd_left
  mhd_accepted a e = e ∙ rw a

  pub mhd_refused : {why : Refusal} {r : Result ⊤ Refusal} → r ≡ Err why → distance ≡ cond q.rich (after r (mh_dist_similarity distance one boxes tracks) boxes tracks distance) distance
  mhd_refused a = rw a (same q.rich)
    where
      same : (b : Bool) → distance ≡ cond b distance distance
      same true = refl
      same false = refl
