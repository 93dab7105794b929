-- `associate` of assoc.rs, lines 665-756, with the label rule of document 02, N2. Steps 1 to 4 are the matrices of the crate below, step 5 is linear_assignment. The Rust's Options are flags beside the lists: where a flag is false its list is not looked at.
use Rattle.std.specs.Prelude.{Bool, cond, ◌&&◌, List, [], ℕ, eqb, Float}
use Rattle.laws.specs.Tab.{indices}
use Rattle.laws.specs.Grid.{grid}
use Rattle.labels.specs.Label.{same_label, alike, where_alike}
use Rattle.floats.specs.Single.{one, plus_zero}
use Rattle.assoc_cost.specs.declared.cost.AssociateParams.{AssociateParams}
use Rattle.assoc_boxes.specs.declared.overlap.OverlapAreas.{OverlapAreas}
use Rattle.assoc_similarity.specs.Overlap.{iou_batch}
use Rattle.assoc_similarity.specs.Mahalanobis.{mh_dist_similarity}
use Rattle.assoc_cost.specs.Cost.{cost_matrix}
use Rattle.assoc_matching.specs.Matching.{Pair}
use Rattle.assoc_assignment.specs.Assignment.{Assignment, assignment, valid_match, assigned_by}

-- "Where labels differ, the IoU, the cost given to the pairing .. of that box and track are taken as 0; distances are unchanged."
-- iou_matrix, as a list, by whether box i and track j are alike
abbrev pub ious : (ℕ → ℕ → Bool) → ℕ → ℕ → List Float → List Float → List Float
ious like num_dets num_trks detections tracks = grid (where_alike like (iou_batch detections tracks) plus_zero) num_dets num_trks []

-- 02, N8: "the label rule under unequal labels sets the ratio to 0 and leaves the areas as computed." The IoU is the ratio: `ious_are_ratios` of proofs/Theorem.antt.
abbrev pub label_rule : Bool → OverlapAreas → OverlapAreas
label_rule like o = record { intersection = o.intersection; union = o.union; ratio = cond like o.ratio plus_zero }

-- cost_matrix, for the similarity mh_sim
abbrev pub costs : (ℕ → ℕ → Bool) → AssociateParams → ℕ → ℕ → List Float → List Float → List Float → List Float → (ℕ → ℕ → Float) → List Float
costs like params num_dets num_trks detections tracks track_confidence detection_confidence mh_sim =
    grid (where_alike like (cost_matrix params detections tracks track_confidence detection_confidence mh_sim) plus_zero) num_dets num_trks []

-- "Such a pair never stands, at any threshold; if the assignment or the direct path proposes it, it joins the rejected pairs."
unfoldable pub stands : (ℕ → ℕ → Bool) → List Float → ℕ → Float → Pair → Bool
stands like iou num_trks threshold p = like p.box p.track && valid_match iou num_trks threshold p

-- by a rule for two labels
unfoldable pub associate_by : (ℕ → ℕ → Bool) → AssociateParams → ℕ → ℕ → List Float → List Float → List Float → List Float → List Float → List ℕ → List ℕ → Assignment
associate_by same params num_dets num_trks detections tracks mahalanobis_distance track_confidence detection_confidence box_labels track_labels =
    let mh_sim : ℕ → ℕ → Float = mh_dist_similarity mahalanobis_distance one num_dets num_trks in
    let like : ℕ → ℕ → Bool = alike same box_labels track_labels in
    let iou : List Float = ious like num_dets num_trks detections tracks in
    let cost : List Float = costs like params num_dets num_trks detections tracks track_confidence detection_confidence mh_sim in
    cond (eqb num_trks 0) (assignment [] (indices num_dets) [] [] 0 0)
    (cond (eqb num_dets 0) (assignment [] [] (indices num_trks) [] 0 0)
    (assigned_by (stands like iou num_trks params.iou_threshold) cost num_dets num_trks params.iou_threshold))

abbrev pub associate : AssociateParams → ℕ → ℕ → List Float → List Float → List Float → List Float → List Float → List ℕ → List ℕ → Assignment
associate = associate_by same_label
