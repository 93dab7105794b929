-- With `always`, and with equal labels everywhere, the association is the one without labels: the statements of specs/Unlabelled. Assumes nothing.
use mathlib.Core.Path.{◌≡◌, refl, sym, ap, ◌∙◌}
use mathlib.Core.Bool.{Bool, true, cond}
use mathlib.Core.List.{List, []}
use Prim.Native.Nat.{ℕ, ◌≤◌, ◌<◌}
use lib.Ieee.{Float}
use borrow.Author.Tests.{eq-eqb}
use Rattle.laws.specs.Grid.{grid, grid_ext}
use Rattle.labels.specs.Label.{label_at, same_label, always, alike, where_alike}
use Rattle.floats.specs.Single.{one, plus_zero}
use Rattle.assoc_cost.specs.declared.cost.AssociateParams.{AssociateParams}
use Rattle.assoc_similarity.specs.Overlap.{iou_batch}
use Rattle.assoc_similarity.specs.Mahalanobis.{mh_dist_similarity}
use Rattle.assoc_matching.specs.Matching.{Pair}
use Rattle.assoc_assignment.specs.Assignment.{assigned_by}
use Rattle.assoc_assignment.proofs.AccountLaws.{assigned_agree}
use Rattle.assoc_cost.specs.Cost.{cost_matrix}
use Rattle.assoc.specs.Association.{ious, stands, associate_by}
use Rattle.assoc.specs.Unlabelled.{associate_unlabelled, WithAlways, WithEqual}
use Rattle.assoc.proofs.AssociationLaws.{as_assigned}

pub with_always : WithAlways
unfolding associate_by associate_unlabelled stands
with_always params n m detections tracks distance track_confidence detection_confidence box_labels track_labels = refl

-- cells by tests that agree
cells_agree : (like like' : ℕ → ℕ → Bool) (f : ℕ → ℕ → Float) (v : Float) (n m : ℕ) → ((i j : ℕ) → i < n → j < m → like i j ≡ like' i j) → grid (where_alike like f v) n m [] ≡ grid (where_alike like' f v) n m []
cells_agree like like' f v n m e = grid_ext (where_alike like f v) n m [] (where_alike like' f v) (λ i j hi hj. ap (λ (b : Bool). cond b (f i j) v) (e i j hi hj))

stands_agree : (like like' : ℕ → ℕ → Bool) (iou : List Float) (m : ℕ) (t : Float) (p : Pair) → like p.box p.track ≡ like' p.box p.track → stands like iou m t p ≡ stands like' iou m t p
unfolding stands
stands_agree like like' iou m t p e = rw e

-- rules and labels that agree on every box and track
module _ (same same' : ℕ → ℕ → Bool) (params : AssociateParams) (n m : ℕ) (detections tracks distance track_confidence detection_confidence : List Float) (box_labels track_labels box_labels' track_labels' : List ℕ) where
  pub associate_agree : n ≤ 255 → m ≤ 255 → ((i j : ℕ) → i < n → j < m → alike same box_labels track_labels i j ≡ alike same' box_labels' track_labels' i j)
      → associate_by same params n m detections tracks distance track_confidence detection_confidence box_labels track_labels
      ≡ associate_by same' params n m detections tracks distance track_confidence detection_confidence box_labels' track_labels'
  associate_agree few-rows few-cols e =
      let like : ℕ → ℕ → Bool = alike same box_labels track_labels in
      let like' : ℕ → ℕ → Bool = alike same' box_labels' track_labels' in
      let t : Float = params.iou_threshold in
      let cost : ℕ → ℕ → Float = cost_matrix params detections tracks track_confidence detection_confidence (mh_dist_similarity distance one n m) in
      let iou : List Float = ious like n m detections tracks in
      let iou' : List Float = ious like' n m detections tracks in
      let ious_are : iou ≡ iou' = cells_agree like like' (iou_batch detections tracks) plus_zero n m e in
      let costs_are : grid (where_alike like cost plus_zero) n m [] ≡ grid (where_alike like' cost plus_zero) n m [] = cells_agree like like' cost plus_zero n m e in
      sym (as_assigned same params n m detections tracks distance track_confidence detection_confidence box_labels track_labels)
      ∙ ap (λ (c : List Float). assigned_by (stands like iou m t) c n m t) costs_are
      ∙ ap (λ (o : List Float). assigned_by (stands like o m t) (grid (where_alike like' cost plus_zero) n m []) n m t) ious_are
      ∙ assigned_agree (stands like iou' m t) (stands like' iou' m t) (grid (where_alike like' cost plus_zero) n m []) n m t few-rows few-cols
      (λ p hb ht. stands_agree like like' iou' m t p (e p.box p.track hb ht))
      ∙ as_assigned same' params n m detections tracks distance track_confidence detection_confidence box_labels' track_labels'

one_label : (a b label : ℕ) → a ≡ label → b ≡ label → same_label a b ≡ true
unfolding same_label
one_label a b label e f = eq-eqb a b (e ∙ sym f)

pub with_equal : WithEqual
with_equal params n m detections tracks distance track_confidence detection_confidence box_labels track_labels label few-rows few-cols boxes_are tracks_are =
    associate_agree same_label always params n m detections tracks distance track_confidence detection_confidence box_labels track_labels box_labels track_labels few-rows few-cols
    (λ i j hi hj. one_label (label_at box_labels i) (label_at track_labels j) label (boxes_are i hi) (tracks_are j hj))
    ∙ with_always params n m detections tracks distance track_confidence detection_confidence box_labels track_labels
