-- That the stages of an accepted call of associate, one after the other, are the definition. Assumes nothing.
use mathlib.Core.Path.{◌≡◌, refl, sym, ap, ◌∙◌}
use mathlib.Core.Bool.{Bool, true, false, cond, ◌&&◌}
use mathlib.Core.List.{List, [], ◌++◌}
use Prim.Native.Nat.{ℕ, ◌+◌, ◌-◌, ◌*◌, ◌≤◌, ◌<◌}
use native.Mathlib.Nat.{add-sub_cancel_left}
use native.Mathlib.Omega.{arith}
use lib.Dec.{eqb}
use lib.Ieee.{Float, nan, inf, fin, binary32, of_bits, div, le, lt, eq}
use lib.ListN.{length, get_or, take, drop, replicate, length-drop, length-replicate, get_or-append}
use lib.Seq.{get_or-take, take_at, drop_at, length-take-le}
use borrow.Author.Tests.{eqb-true, le-ltb, eq-eqb}
use borrow.Rule.Slice.PartMut.{put_mid}
use Rattle.laws.specs.Tests.{false_not_true}
use Rattle.laws.specs.Tab.{tab, indices}
use Rattle.laws.specs.Splice.{mid_splice}
use Rattle.laws.specs.Grid.{cell_at, grid, grid-at, grid-over, grid_ext, grid-whole, length-grid, row_ends}
use Rattle.labels.specs.Label.{alike, where_alike}
use Rattle.floats.specs.Single.{one, plus_zero}
use Rattle.assoc_cost.specs.declared.cost.AssociateParams.{AssociateParams}
use Rattle.refusals.specs.declared.refusal.Refusal.{Refusal}
use Rattle.std.specs.Bool.{⊤}
use Rattle.std.proofs.Common.{Result, Ok, Err}
use Rattle.assoc_similarity.specs.Sizes.{of_corners, of_cells, of_distances, Ready, after}
use Rattle.assoc_similarity.specs.Overlap.{box_at, iou_batch}
use Rattle.assoc_similarity.specs.Mahalanobis.{mh_dist_similarity}
use Rattle.assoc_cost.specs.Cost.{cost_matrix}
use Rattle.assoc_cost.proofs.CostLaws.{cost_ext}
use Rattle.assoc_assignment.specs.declared.assignment.AssignmentCounts.{AssignmentCounts}
use Rattle.assoc_matching.specs.Matching.{Pair, match_detections}
use Rattle.assoc_assignment.specs.Assignment.{assignment, valid_match, validated, assigned_by, linear_assignment}
use Rattle.assoc_assignment.proofs.AccountLaws.{assigned_agree}
use Rattle.assoc_matching.specs.Answers.{Call}
use Rattle.assoc_assignment.specs.Answers.{assignment_call}
use Rattle.assoc_assignment.specs.Answers as Assignments
use Rattle.assoc.specs.Association.{ious, costs, stands, associate_by}
use Rattle.assoc_verdict.specs.Verdict.{Cornered}
use Rattle.assoc.specs.Answers.{cleared}
use Rattle.assoc.specs.Private.{Likened, marked_ious, Halves, with_floats}

-- ---- the matrices: the crate below accepts what is lent

module _ {n m : ℕ} (few-rows : n ≤ 255) (few-cols : m ≤ 255) where
  pub corners-accepted : {detections corners out : ℕ} → detections ≡ n * 4 → corners ≡ m * 4 → n * m ≤ out → of_corners n m detections corners out ≡ Ok tt
  corners-accepted {detections} {corners} {out} e f r = rw (le-ltb 255 n few-rows, le-ltb 255 m few-cols, eq-eqb detections (n * 4) e, eq-eqb corners (m * 4) f, le-ltb out (n * m) r)

  pub cells-accepted : {cells : ℕ} → n * m ≤ cells → of_cells n m cells ≡ Ok tt
  cells-accepted {cells} r = rw (le-ltb 255 n few-rows, le-ltb 255 m few-cols, le-ltb cells (n * m) r)

  pub distances_accepted : {distance out : ℕ} → distance ≡ n * m → n * m ≤ out → of_distances n m distance out ≡ Ok tt
  distances_accepted {distance} {out} e r = rw (le-ltb 255 n few-rows, le-ltb 255 m few-cols, eq-eqb distance (n * m) e, le-ltb out (n * m) r)

-- so that none of their refusals is met
pub not_refused : {v : Result ⊤ Refusal} {why : Refusal} → v ≡ Ok tt → v ≡ Err why → ⊥
not_refused e f = let z : ◌≡◌ {A = ℕ} 0 1 = cc in omega arith

-- what an accepted call leaves in a part that it fills
pub stored : (f : ℕ → ℕ → Float) (n m : ℕ) (part : List Float) {r : Result ⊤ Refusal} {vs : List Float} → r ≡ Ok tt → vs ≡ after r f n m part → vs ≡ grid f n m part
stored f n m part {r} {vs} e h = rw e at h

pub likened : (has : Bool) (n m : ℕ) (distance l : List Float) {r : Result ⊤ Refusal} {vs : List Float} → n * m ≤ length l → r ≡ Ok tt → vs ≡ after r (mh_dist_similarity distance one n m) n m (take (n * m) l)
    → Likened has n m distance (vs ++ drop (n * m) l)
likened has n m distance l {r} {vs} h e f =
    let part : List Float = take (n * m) l in
    let g : vs ≡ grid (mh_dist_similarity distance one n m) n m part = stored (mh_dist_similarity distance one n m) n m part e f in
    let k : length part ≡ n * m = length-take-le (n * m) l h in
    let long : length vs ≡ n * m = ap length g ∙ length-grid (mh_dist_similarity distance one n m) n m part (omega arith) ∙ k in
    record {
      similar = λ _ i j hi hj. get_or-append vs (drop (n * m) l) nan (i * m + j) (let b = row_ends n m i hi in omega arith)
          ∙ ap (λ (v : List Float). cell_at nan m v i j) g ∙ grid-at (mh_dist_similarity distance one n m) n m part nan i j hi hj;
    }

pub unlikened : {has : Bool} {n m : ℕ} {distance l : List Float} → has ≡ false → Likened has n m distance l
unlikened e = record { similar = λ h. absurd (false_not_true (sym e ∙ h)) }

-- a matrix alone has a cell for each box and track
pub length_matrix : (f : ℕ → ℕ → Float) (n m : ℕ) → length (grid f n m []) ≡ n * m
length_matrix f n m =
    let cells : List Float = replicate (n * m) nan in
    let long : length cells ≡ n * m = length-replicate (n * m) nan in
    ap length (sym (grid-whole f n m cells long)) ∙ length-grid f n m cells (omega arith) ∙ long

-- ---- boxes and tracks that are not alike

-- their cells, set in a matrix that is stored
pub over-grid : (like : ℕ → ℕ → Bool) (f : ℕ → ℕ → Float) (v : Float) (n m : ℕ) (l : List Float)
    → grid (where_alike like (cell_at nan m (grid f n m l)) v) n m (grid f n m l) ≡ grid (where_alike like f v) n m l
over-grid like f v n m l =
    grid_ext (where_alike like (cell_at nan m (grid f n m l)) v) n m (grid f n m l) (where_alike like f v) (λ i j hi hj. ap (λ (x : Float). cond (like i j) x v) (grid-at f n m l nan i j hi hj))
    ∙ grid-over f n m l (where_alike like f v)

pub unlike_set_lem : (like : ℕ → ℕ → Bool) (f : ℕ → ℕ → Float) (v : Float) (n m : ℕ) (l : List Float) {cells cells' : List Float} → cells ≡ grid f n m l
    → cells' ≡ grid (where_alike like (cell_at nan m cells) v) n m cells → cells' ≡ grid (where_alike like f v) n m l
unlike_set_lem like f v n m l e h = h ∙ rw e (over-grid like f v n m l)

-- by `0.0 / 0.0`
nan_made : div binary32 plus_zero plus_zero ≡ nan
unfolding div of_bits
nan_made = refl

pub unlike_marked : (like : ℕ → ℕ → Bool) (f : ℕ → ℕ → Float) (n m : ℕ) (l : List Float) {cells cells' : List Float} → cells ≡ grid f n m l
    → cells' ≡ grid (where_alike like (cell_at nan m cells) (div binary32 plus_zero plus_zero)) n m cells → cells' ≡ grid (where_alike like f nan) n m l
unlike_marked like f n m l e h = unlike_set_lem like f (div binary32 plus_zero plus_zero) n m l e h ∙ ap (λ (v : Float). grid (where_alike like f v) n m l) nan_made

-- a NaN is at least no threshold
nan_below : (t : Float) → le t nan ≡ false
unfolding le lt eq
nan_below nan = refl
nan_below (inf s) = refl
nan_below (fin s m e) = refl

-- so that marked pairs are those that do not stand
marked_is : (like : ℕ → ℕ → Bool) (n m : ℕ) (detections corners : List Float) (t : Float) (p : Pair) → p.box < n → p.track < m
    → valid_match (marked_ious like n m detections corners) m t p ≡ stands like (ious like n m detections corners) m t p
unfolding valid_match stands
marked_is like n m detections corners t p hb ht =
    let f : ℕ → ℕ → Float = iou_batch detections corners in
    rw (grid-at (where_alike like f nan) n m [] nan p.box p.track hb ht, grid-at (where_alike like f plus_zero) n m [] nan p.box p.track hb ht)
    (by_cases (like p.box p.track) (f p.box p.track))
  where
    by_cases : (b : Bool) (x : Float) → le t (cond b x nan) ≡ (b && le t (cond b x plus_zero))
    by_cases true x = refl
    by_cases false x = nan_below t

-- ---- the two matrices

-- the part behind the first k, with vs over these
abbrev pub behind : ℕ → List Float → List Float → List Float
behind k l vs = take (k + k - k) (drop k (vs ++ drop k l))

module _ (n m : ℕ) {detections corners : ℕ} (l : List Float) (w : Cornered n m detections corners (length l)) where
  front-many : length (take (n * m) l) ≡ n * m
  front-many = let room = w.room in length-take-le (n * m) l (omega arith)

  -- the front is long enough for the costs
  pub costs-ready : Ready n m detections corners (length (take (n * m) l))
  costs-ready = let long = front-many in record { detections_fit = w.detections_fit; corners_fit = w.corners_fit; room = omega arith }

  behind-many : (vs : List Float) → length vs ≡ length (take (n * m) l) → length (behind (n * m) l vs) ≡ n * m
  behind-many vs same =
      let room = w.room in
      rw (add-sub_cancel_left (n * m) (n * m), drop_at vs (drop (n * m) l) (n * m) (same ∙ front-many)) (length-take-le (n * m) (drop (n * m) l) (rw length-drop (omega arith)))

  -- and what lies behind them for the IoU matrix
  pub overlaps_ready : (vs : List Float) → length vs ≡ length (take (n * m) l) → (n ≤ 255) × (m ≤ 255) × Ready n m detections corners (length (behind (n * m) l vs))
  overlaps_ready vs same =
      let long = behind-many vs same in
      (w.few-rows, w.few-cols, record { detections_fit = w.detections_fit; corners_fit = w.corners_fit; room = omega arith })

module _ (like : ℕ → ℕ → Bool) (params : AssociateParams) (n m : ℕ) (detections corners track_confidence detection_confidence : List Float) where
  -- the costs of a similarity that agrees with another where it is looked at
  costs_ext : (f g : ℕ → ℕ → Float) → (params.has_mahalanobis ≡ true → (i j : ℕ) → i < n → j < m → f i j ≡ g i j)
      → costs like params n m detections corners track_confidence detection_confidence f ≡ costs like params n m detections corners track_confidence detection_confidence g
  costs_ext f g h =
      grid_ext (where_alike like (cost_matrix params detections corners track_confidence detection_confidence f) plus_zero) n m []
      (where_alike like (cost_matrix params detections corners track_confidence detection_confidence g) plus_zero)
      (λ i j hi hj. ap (λ (x : Float). cond (like i j) x plus_zero)
      (cost_ext params (box_at detections i) (box_at corners j) (get_or detection_confidence i plus_zero) (get_or track_confidence j plus_zero) (f i j) (g i j) (λ e. h e i j hi hj)))

  pub halves : (l : List Float) → Cornered n m (length detections) (length corners) (length l) → {vs₁ vs₂ : List Float}
      → vs₁ ≡ grid (where_alike like (cost_matrix params detections corners track_confidence detection_confidence (cell_at nan m (take (n * m) l))) plus_zero) n m (take (n * m) l)
      → vs₂ ≡ grid (where_alike like (iou_batch detections corners) nan) n m (behind (n * m) l vs₁)
      → Halves (n * m) (costs like params n m detections corners track_confidence detection_confidence (cell_at nan m l)) (marked_ious like n m detections corners) (put_mid (n * m) (n * m + n * m - n * m) (vs₁ ++ drop (n * m) l) vs₂)
  halves l w {vs₁} {vs₂} g₁ g₂ =
      let cost : ℕ → ℕ → Float = where_alike like (cost_matrix params detections corners track_confidence detection_confidence (cell_at nan m (take (n * m) l))) plus_zero in
      let iou : ℕ → ℕ → Float = where_alike like (iou_batch detections corners) nan in
      let part : List Float = take (n * m) l in
      let long : length part ≡ n * m = front-many n m l w in
      let same : length vs₁ ≡ length part = ap length g₁ ∙ length-grid cost n m part (omega arith) in
      let n₁ : length vs₁ ≡ n * m = same ∙ long in
      let long₂ : length (behind (n * m) l vs₁) ≡ n * m = behind-many n m l w vs₁ same in
      let n₂ : length vs₂ ≡ n * m = ap length g₂ ∙ length-grid iou n m (behind (n * m) l vs₁) (omega arith) ∙ long₂ in
      let costs_are : vs₁ ≡ costs like params n m detections corners track_confidence detection_confidence (cell_at nan m l) =
      g₁ ∙ grid-whole cost n m part long
      ∙ costs_ext (cell_at nan m part) (cell_at nan m l) (λ _ i j hi hj. get_or-take (n * m) l (i * m + j) nan (let b = row_ends n m i hi in omega arith)) in
      let ious_are : vs₂ ≡ marked_ious like n m detections corners = g₂ ∙ grid-whole iou n m (behind (n * m) l vs₁) long₂ in
      let rest : List Float = drop (n * m + length vs₂) (vs₁ ++ drop (n * m) l) in
      let whole : put_mid (n * m) (n * m + n * m - n * m) (vs₁ ++ drop (n * m) l) vs₂ ≡ vs₁ ++ (vs₂ ++ rest) =
      mid_splice (vs₁ ++ drop (n * m) l) (n * m) (n * m) vs₂ n₂ ∙ ap (λ (t : List Float). t ++ (vs₂ ++ rest)) (take_at vs₁ (drop (n * m) l) (n * m) n₁) in
      rw whole (record {
        costs_are = take_at vs₁ (vs₂ ++ rest) (n * m) n₁ ∙ costs_are;
        ious_are = ap (take (n * m)) (drop_at vs₁ (vs₂ ++ rest) (n * m) n₁) ∙ take_at vs₂ rest (n * m) n₂ ∙ ious_are;
      })

-- ---- the assignment by the two matrices

-- the second is lent as a part
pub half-done : (n m : ℕ) (t : Float) (cells : List Float) (l : Assignments.Lent)
    → assignment_call n m (take (n * m + n * m - n * m) (drop (n * m) cells)) (take (n * m) cells) t l ≡ assignment_call n m (take (n * m) (drop (n * m) cells)) (take (n * m) cells) t l
half-done n m t cells l = rw (add-sub_cancel_left (n * m) (n * m))

-- with the floats cleared
pub paired_up : (n m : ℕ) (t : Float) (l : Assignments.Lent) (cells₀ : List Float) {k : ℕ} {cost iou cells cells' : List Float} {call : Call AssignmentCounts Assignments.Lent} → Halves k cost iou cells
    → call ≡ assignment_call n m (take k (drop k cells)) (take k cells) t l → cells' ≡ cleared cells → length cells ≡ length cells₀
    → with_floats cells' call ≡ with_floats (cleared cells₀) (assignment_call n m iou cost t l)
paired_up n m t l cells₀ {k} {cost} {iou} {cells} {cells'} {call} h d e same =
    let q : call ≡ assignment_call n m iou cost t l = rw (h.ious_are, h.costs_are) at d in
    let z : cells' ≡ cleared cells₀ = e ∙ ap (tab (λ i. of_bits binary32 0)) same in
    rw (q, z)

-- ---- the definition

-- an assignment answers by itself what associate's early returns do
early : (ok : Pair → Bool) (cost : List Float) (n m : ℕ) (t : Float)
    → assigned_by ok cost n m t ≡ cond (eqb m 0) (assignment [] (indices n) [] [] 0 0) (cond (eqb n 0) (assignment [] [] (indices m) [] 0 0) (assigned_by ok cost n m t))
unfolding assigned_by tab
early ok cost n m t = by_cases (eqb n 0) refl (eqb m 0) refl
  where
    by_cases : (a : Bool) → eqb n 0 ≡ a → (b : Bool) → eqb m 0 ≡ b
        → cond a (assignment [] [] (indices m) [] 0 0) (cond b (assignment [] (indices n) [] [] 0 0) (validated ok n m (match_detections cost n m t)))
        ≡ cond b (assignment [] (indices n) [] [] 0 0) (cond a (assignment [] [] (indices m) [] 0 0) (cond a (assignment [] [] (indices m) [] 0 0) (cond b (assignment [] (indices n) [] [] 0 0) (validated ok n m (match_detections cost n m t)))))
    by_cases true e true f = rw (eqb-true n 0 e, eqb-true m 0 f)
    by_cases true e false f = refl
    by_cases false e true f = refl
    by_cases false e false f = refl

module _ (same : ℕ → ℕ → Bool) (params : AssociateParams) (n m : ℕ) (detections corners distance track_confidence detection_confidence : List Float) (box_labels track_labels : List ℕ) where
  abbrev like : ℕ → ℕ → Bool
  like = alike same box_labels track_labels

  pub as_assigned : assigned_by (stands like (ious like n m detections corners) m params.iou_threshold)
      (costs like params n m detections corners track_confidence detection_confidence (mh_dist_similarity distance one n m)) n m params.iou_threshold
      ≡ associate_by same params n m detections corners distance track_confidence detection_confidence box_labels track_labels
  unfolding associate_by
  as_assigned = early (stands like (ious like n m detections corners) m params.iou_threshold) (costs like params n m detections corners track_confidence detection_confidence (mh_dist_similarity distance one n m)) n m params.iou_threshold

  -- linear_assignment by the marked matrix, whose costs look at the similarities in the front of `cells`
  pub associate-is : n ≤ 255 → m ≤ 255 → (cells : List Float) → Likened params.has_mahalanobis n m distance cells
      → linear_assignment (marked_ious like n m detections corners) (costs like params n m detections corners track_confidence detection_confidence (cell_at nan m cells)) n m params.iou_threshold
      ≡ associate_by same params n m detections corners distance track_confidence detection_confidence box_labels track_labels
  associate-is few-rows few-cols cells w =
      let t : Float = params.iou_threshold in
      let marked : Pair → Bool = valid_match (marked_ious like n m detections corners) m t in
      ap (λ (cost : List Float). assigned_by marked cost n m t)
      (costs_ext like params n m detections corners track_confidence detection_confidence (cell_at nan m cells) (mh_dist_similarity distance one n m) w.similar)
      ∙ assigned_agree marked (stands like (ious like n m detections corners) m t) (costs like params n m detections corners track_confidence detection_confidence (mh_dist_similarity distance one n m)) n m t few-rows few-cols
      (marked_is like n m detections corners t)
      ∙ as_assigned
