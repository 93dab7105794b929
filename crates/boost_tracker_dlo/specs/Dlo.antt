-- boost_tracker.rs, dlo_confidence_boost, lines 475-572: the scores that it leaves. What is dets[i] in the Rust is here box i of det_bboxes, four corners for each box, and element i of scores.
-- mh_dist is what get_mh_dist_matrix gives for these boxes, and time_since_update j that of tracker j.
use Rattle.std.specs.Prelude.{ℕ, ◌-◌, Bool, cond, not, ◌&&◌, ◌||◌, List, pos, ◌==◌, from_bits, nat_lt, slice_index_or, Float}
use Rattle.std.specs.Float.{nan, binary32}
use Rattle.std.specs.Float.Ieee.{of_int, lt}
use Rattle.laws.specs.Tab.{tab}
use Rattle.laws.specs.Fold.{fold}
use Rattle.laws.specs.Scan.{lowest}
use Rattle.labels.specs.Label.{where_alike}
use Rattle.floats_pick.specs.Pick.{larger}
use Rattle.floats.specs.Power.{powf15}
use Rattle.floats.specs.Single.{◌⊕◌, ◌⊖◌, ◌⊗◌, ◌⊘◌, plus_zero, one}
use Rattle.assoc_similarity.specs.Overlap.{iou_batch, soft_biou_batch}
use Rattle.assoc_similarity.specs.Shape.{shape_similarity_v1, shape_similarity_v2}
use Rattle.assoc_similarity.specs.Mahalanobis as Mahalanobis
use Rattle.boost_tracker_dlo.specs.declared.dlo.DloSettings.{DloSettings}

-- ---- the similarity matrix

-- (mhd_sim + shape_sim + sbiou) / 3, or the IoU
unfoldable pub similarity : DloSettings → List Float → List Float → List Float → (ℕ → ℕ → Float) → ℕ → ℕ → ℕ → Float
similarity self det_bboxes trks confs mh_dist dets i j =
    let sbiou : Float = soft_biou_batch det_bboxes trks confs i j in
    let mhd_sim : Float = Mahalanobis.similarity mh_dist one dets i j in
    let shape_sim : Float = cond self.corrected (shape_similarity_v2 det_bboxes trks i j) (shape_similarity_v1 det_bboxes trks i j) in
    cond self.rich ((mhd_sim ⊕ shape_sim ⊕ sbiou) ⊘ from_bits binary32 0x4040_0000) (iou_batch det_bboxes trks i j)

-- ---- the boosts of the scores

-- 0.65
abbrev pub alpha : Float
alpha = from_bits binary32 0x3f26_6666

-- 0.95, 0.8 and 20.0
abbrev pub threshold_s : Float
threshold_s = from_bits binary32 0x3f73_3333

abbrev pub threshold_e : Float
threshold_e = from_bits binary32 0x3f4c_cccd

abbrev pub n_steps : Float
n_steps = from_bits binary32 0x41a0_0000

abbrev pub alpha_vt : Float
alpha_vt = (threshold_s ⊖ threshold_e) ⊘ n_steps

-- time_since_update().saturating_sub(1) as f32
abbrev pub tsu : ℕ → Float
tsu time_since_update = of_int binary32 (pos (time_since_update - 1))

unfoldable pub threshold : ℕ → Float
threshold time_since_update = larger (threshold_s ⊖ tsu time_since_update ⊗ alpha_vt) threshold_e

module _ (self : DloSettings) (similarity : ℕ → ℕ → Float) (time_since_update : ℕ → ℕ) (dets trks : ℕ) where
  unfoldable pub max_s : ℕ → Float
  max_s i = fold (λ max_s j. larger max_s (similarity i j)) plus_zero trks

  -- the simple boost, by a coefficient
  unfoldable pub coefficient : List Float → List Float
  coefficient scores = tab (λ i. larger (slice_index_or scores i nan) (max_s i ⊗ self.coef)) dets

  -- alpha * score + (1 - alpha) * max_s^1.5
  unfoldable pub soft : List Float → List Float
  soft scores = tab (λ i. larger (slice_index_or scores i nan) (alpha ⊗ slice_index_or scores i nan ⊕ (one ⊖ alpha) ⊗ powf15 (max_s i))) dets

  -- some j is found at which the loop breaks
  unfoldable pub should_boost : ℕ → Bool
  should_boost i = nat_lt (lowest (λ j. lt (threshold (time_since_update j)) (similarity i j)) trks) trks

  -- det_thresh + 1e-5
  unfoldable pub varying : List Float → List Float
  varying scores = tab (λ i. cond (should_boost i) (larger (slice_index_or scores i nan) (self.thresh ⊕ from_bits binary32 0x3727_c5ac)) (slice_index_or scores i nan)) dets

  unfoldable pub boosted : List Float → List Float
  boosted scores =
      let softened : List Float = cond self.soft (soft scores) scores in
      cond (not self.soft && not self.varying) (coefficient scores) (cond self.varying (varying softened) softened)

-- 02, N2: "Where labels differ, .. the DLO similarity of that box and track [is] taken as 0", the rich one after its division; by whether box i and tracker j are alike
unfoldable pub dlo_confidence_boost : (ℕ → ℕ → Bool) → DloSettings → List Float → List Float → List Float → (ℕ → ℕ → Float) → (ℕ → ℕ) → ℕ → ℕ → List Float → List Float
dlo_confidence_boost like self det_bboxes trks confs mh_dist time_since_update dets tracks scores =
    cond (tracks == 0 || dets == 0) scores (boosted self (where_alike like (similarity self det_bboxes trks confs mh_dist dets) plus_zero) time_since_update dets tracks scores)
