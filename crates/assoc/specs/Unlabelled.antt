-- `associate` of assoc.rs, lines 665-756, which knows no labels, and what document 02, N2, asks: "With equal labels everywhere the results are those of before."
-- `with_always` and `with_equal` of proofs/UnlabelledLaws.antt prove it.
use Rattle.std.specs.Prelude.{◌≡◌, cond, List, [], ℕ, ◌≤◌, ◌<◌, eqb, Float}
use Rattle.laws.specs.Tab.{indices}
use Rattle.laws.specs.Grid.{grid}
use Rattle.labels.specs.Label.{label_at, always}
use Rattle.floats.specs.Single.{one}
use Rattle.assoc_cost.specs.declared.cost.AssociateParams.{AssociateParams}
use Rattle.assoc_similarity.specs.Overlap.{iou_batch}
use Rattle.assoc_similarity.specs.Mahalanobis.{mh_dist_similarity}
use Rattle.assoc_cost.specs.Cost.{cost_matrix}
use Rattle.assoc_assignment.specs.Assignment.{Assignment, assignment, linear_assignment}
use Rattle.assoc.specs.Association.{associate_by, associate}

unfoldable pub associate_unlabelled : AssociateParams → ℕ → ℕ → List Float → List Float → List Float → List Float → List Float → Assignment
associate_unlabelled params num_dets num_trks detections tracks mahalanobis_distance track_confidence detection_confidence =
    let mh_sim : ℕ → ℕ → Float = mh_dist_similarity mahalanobis_distance one num_dets num_trks in
    let iou : List Float = grid (iou_batch detections tracks) num_dets num_trks [] in
    let cost : List Float = grid (cost_matrix params detections tracks track_confidence detection_confidence mh_sim) num_dets num_trks [] in
    cond (eqb num_trks 0) (assignment [] (indices num_dets) [] [] 0 0)
    (cond (eqb num_dets 0) (assignment [] [] (indices num_trks) [] 0 0)
    (linear_assignment iou cost num_dets num_trks params.iou_threshold))

-- by the rule that tells no two labels apart the definition is that one
abbrev pub WithAlways : Type 0
WithAlways =
    (params : AssociateParams) (num_dets num_trks : ℕ) (detections tracks distance track_confidence detection_confidence : List Float) (box_labels track_labels : List ℕ)
    → associate_by always params num_dets num_trks detections tracks distance track_confidence detection_confidence box_labels track_labels
    ≡ associate_unlabelled params num_dets num_trks detections tracks distance track_confidence detection_confidence

-- and so it is where all boxes and tracks have one label
abbrev pub WithEqual : Type 0
WithEqual =
    (params : AssociateParams) (num_dets num_trks : ℕ) (detections tracks distance track_confidence detection_confidence : List Float) (box_labels track_labels : List ℕ) (label : ℕ)
    → num_dets ≤ 255 → num_trks ≤ 255 → ((i : ℕ) → i < num_dets → label_at box_labels i ≡ label) → ((j : ℕ) → j < num_trks → label_at track_labels j ≡ label)
    → associate params num_dets num_trks detections tracks distance track_confidence detection_confidence box_labels track_labels
    ≡ associate_unlabelled params num_dets num_trks detections tracks distance track_confidence detection_confidence
