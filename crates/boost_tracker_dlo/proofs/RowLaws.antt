-- The matrices that only the rich similarity reads, for one box. Assumes nothing.
use Rattle.std.proofs.Common.{◌≡◌, ℕ, ◌*◌, ◌≤◌, List, take, drop, arith, le-ltb, eq-eqb, Ok}
use lib.Ieee.{Float}
use Rattle.assoc_similarity.specs.Sizes.{of_confidences}
use Rattle.assoc_similarity.specs.Overlap.{soft_biou_batch}
use Rattle.assoc_similarity.specs.Shape.{shape_similarity_v1, shape_similarity_v2}
use Rattle.boost_tracker_boosts.specs.Rows.{OneBox}
use Rattle.boost_tracker_boosts.proofs.OneRow.{corner, first}

accepted-confidences : (boxes tracks detections corners confidences out : ℕ) → boxes ≤ 255 → tracks ≤ 255 → detections ≡ boxes * 4 → corners ≡ tracks * 4 → confidences ≡ tracks
    → boxes * tracks ≤ out → of_confidences boxes tracks detections corners confidences out ≡ Ok tt
accepted-confidences boxes tracks detections corners confidences out b t d c f o =
    rw (le-ltb 255 boxes b, le-ltb 255 tracks t, eq-eqb confidences tracks f, eq-eqb detections (boxes * 4) d, eq-eqb corners (tracks * 4) c, le-ltb out (boxes * tracks) o)

pub one_confident : {det trks confs row sbiou : ℕ} → OneBox det trks row → confs ≡ row → sbiou ≡ row → of_confidences 1 row det trks confs sbiou ≡ Ok tt
one_confident {det} {trks} {confs} {row} {sbiou} w c s = accepted-confidences 1 row det trks confs sbiou (omega arith) w.few w.four w.trks_fit c (omega arith)

-- box i as a list of its own
module _ (l : List Float) (i : ℕ) where
  pub one-soft : (trks confs : List Float) (j : ℕ) → soft_biou_batch (take 4 (drop (i * 4) l)) trks confs 0 j ≡ soft_biou_batch l trks confs i j
  one-soft trks confs j = rw (first l i, corner l i 1 (omega arith), corner l i 2 (omega arith), corner l i 3 (omega arith))

  pub one_v1 : (trks : List Float) (j : ℕ) → shape_similarity_v1 (take 4 (drop (i * 4) l)) trks 0 j ≡ shape_similarity_v1 l trks i j
  one_v1 trks j = rw (first l i, corner l i 1 (omega arith), corner l i 2 (omega arith), corner l i 3 (omega arith))

  pub one_v2 : (trks : List Float) (j : ℕ) → shape_similarity_v2 (take 4 (drop (i * 4) l)) trks 0 j ≡ shape_similarity_v2 l trks i j
  one_v2 trks j = rw (first l i, corner l i 1 (omega arith), corner l i 2 (omega arith), corner l i 3 (omega arith))
