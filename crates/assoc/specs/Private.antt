-- What the contracts of the private functions cite. proofs/ shows that it comes to the definition.
use Rattle.std.specs.Prelude.{◌≡◌, Bool, true, List, [], ℕ, ◌<◌, Float, take, drop}
use Rattle.std.specs.Float.{nan}
use Rattle.laws.specs.Grid.{cell_at, grid}
use Rattle.labels.specs.Label.{where_alike}
use Rattle.floats.specs.Single.{one}
use Rattle.assoc_similarity.specs.Overlap.{iou_batch}
use Rattle.assoc_similarity.specs.Mahalanobis.{mh_dist_similarity}
use Rattle.assoc_assignment.specs.declared.assignment.AssignmentCounts.{AssignmentCounts}
use Rattle.assoc_matching.specs.Answers.{Call}
use Rattle.assoc_assignment.specs.Answers as Assignments
use Rattle.assoc.specs.Answers.{Lent}

-- the front of a list holds the similarities of the distances, where there are any
pub record Likened (has : Bool) (boxes tracks : ℕ) (distance cells : List Float) : Type 0 where
  pub similar : has ≡ true → (i j : ℕ) → i < boxes → j < tracks → cell_at nan tracks cells i j ≡ mh_dist_similarity distance one boxes tracks i j

-- the IoU matrix as it lies in memory: a NaN, which is at least no threshold, marks a box and a track that are not alike
abbrev pub marked_ious : (ℕ → ℕ → Bool) → ℕ → ℕ → List Float → List Float → List Float
marked_ious like boxes tracks detections corners = grid (where_alike like (iou_batch detections corners) nan) boxes tracks []

-- two matrices of n cells each, one behind the other
pub record Halves (n : ℕ) (cost iou cells : List Float) : Type 0 where
  pub costs_are : take n cells ≡ cost
  pub ious_are : take n (drop n cells) ≡ iou

-- a call of linear_assignment, with the floats that lie beside it
abbrev pub with_floats : List Float → Call AssignmentCounts Assignments.Lent → Call AssignmentCounts Lent
with_floats work32 c = record { number = c.number; counts = c.counts; lent = record { lists = c.lent.lists; work64 = c.lent.work; work32 = work32 } }
