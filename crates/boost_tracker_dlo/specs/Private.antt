-- What only private contracts cite: the boost as the code works it, a row at a time, and what the loops ask of their callers.
use Rattle.std.specs.Prelude.{◌≡◌, ℕ, ◌+◌, ◌*◌, ◌≤◌, Bool, cond, ◌||◌, List, length, take, drop, from_bits, nat_lt, slice_index, slice_index_or, Float}
use Rattle.std.specs.Float.{nan, binary32}
use Rattle.std.specs.Float.Ieee.{lt}
use Rattle.laws.specs.Fold.{fold}
use Rattle.laws.specs.Scan.{lowest}
use Rattle.labels.specs.Label.{same_label, label_at}
use Rattle.floats_pick.specs.Pick.{larger}
use Rattle.floats.specs.Power.{powf15}
use Rattle.floats.specs.Single.{◌⊕◌, ◌⊖◌, ◌⊗◌, ◌⊘◌, plus_zero, one}
use Rattle.assoc_similarity.specs.Overlap.{iou_batch, soft_biou_batch}
use Rattle.laws.specs.Grid.{grid}
use Rattle.assoc_similarity.specs.Shape.{shape_similarity_v1, shape_similarity_v2}
use Rattle.assoc_similarity.specs.Mahalanobis.{mh_dist_similarity}
use Rattle.boost_tracker_dlo.specs.declared.dlo.DloSettings.{DloSettings}
use Rattle.boost_tracker_dlo.specs.Dlo.{alpha, threshold}

abbrev pub shape_row : Bool → List Float → List Float → ℕ → Float
shape_row corrected det trks j = cond corrected (shape_similarity_v2 det trks 0 j) (shape_similarity_v1 det trks 0 j)

abbrev pub third : Float → Float → Float → Float
third mhd shape sbiou = (mhd ⊕ shape ⊕ sbiou) ⊘ from_bits binary32 0x4040_0000

-- the similarities of one box, with its row of mhd_sim
unfoldable pub row_similarity : DloSettings → List Float → List Float → List Float → (ℕ → Float) → ℕ → Float
row_similarity q det trks confs mhd j = cond q.rich (third (mhd j) (shape_row q.corrected det trks j) (soft_biou_batch det trks confs 0 j)) (iou_batch det trks 0 j)

abbrev pub most_of : (ℕ → Float) → ℕ → Float
most_of row tracks = fold (λ most j. larger most (row j)) plus_zero tracks

abbrev pub soft_score : Float → Float → Float
soft_score score max_s = larger score (alpha ⊗ score ⊕ (one ⊖ alpha) ⊗ powf15 max_s)

unfoldable pub softened : Bool → (ℕ → Float) → ℕ → Float → Float
softened soft row tracks score = cond soft (soft_score score (most_of row tracks)) score

unfoldable pub varied : Bool → Float → (ℕ → Float) → (ℕ → ℕ) → ℕ → Float → Float
varied varying thresh row since tracks score =
    cond varying (cond (nat_lt (lowest (λ j. lt (threshold (since j)) (row j)) tracks) tracks) (larger score (thresh ⊕ from_bits binary32 0x3727_c5ac)) score) score

unfoldable pub row_score : DloSettings → (ℕ → Float) → (ℕ → ℕ) → ℕ → Float → Float
row_score q row since tracks score =
    cond (q.soft || q.varying) (varied q.varying q.thresh row since tracks (softened q.soft row tracks score)) (larger score (most_of row tracks ⊗ q.coef))

-- a row, with 0 in the cells of tracks that have another label
abbrev pub alike_row : ℕ → List ℕ → (ℕ → Float) → ℕ → Float
alike_row label labels row j = cond (same_label label (label_at labels j)) (row j) plus_zero

-- the score of box i, of its row and its label
unfoldable pub boosted_score : DloSettings → List Float → List Float → List Float → List Float → List ℕ → ℕ → List ℕ → ℕ → Float → Float
boosted_score q detections trks confs mhd since label labels i score =
    row_score q (alike_row label labels (row_similarity q (take 4 (drop (i * 4) detections)) trks confs (λ j. slice_index_or mhd (i * length since + j) nan))) (λ j. slice_index since j) (length since) score

-- lengths of the slices of the boxes, and how many tracks there are
pub record Ready (detections mhd since scores : ℕ) : Type 0 where
  pub detections_fit : detections ≡ scores * 4
  pub room : scores * since ≤ mhd

pub record Measured (boxes tracks distance : ℕ) : Type 0 where
  pub boxes-few : boxes ≤ 255
  pub tracks-few : tracks ≤ 255
  pub room : boxes * tracks ≤ distance

-- what the boost leaves in the place of the distances
unfoldable pub mhd_left : Bool → ℕ → ℕ → List Float → List Float
mhd_left rich boxes tracks distance = cond rich (grid (mh_dist_similarity distance one boxes tracks) boxes tracks distance) distance
