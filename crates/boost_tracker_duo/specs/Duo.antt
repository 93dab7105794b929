-- boost_tracker.rs, duo_confidence_boost, lines 578-689: the scores that it leaves. What is dets[i] in the Rust is here box i of det_bboxes, four corners for each box, and element i of scores.
-- mh_dist is what get_mh_dist_matrix gives for these boxes. Indices of `boost_candidates` are i, j and boxi, indices of dets idx, as in the Rust.
use Rattle.std.specs.Prelude.{Bool, cond, not, ◌&&◌, ◌||◌, ℕ, eqb, leb, get_or, length, Float}
use mathlib.Core.List.{List, [], ◌∷◌, ◌++◌, map, foldl}
use Rattle.std.specs.Float.{nan, binary32}
use Rattle.std.specs.Float.Ieee.{lt, le, eq, of_bits}
use Rattle.laws.specs.Tab.{tab, indices}
use Rattle.laws.specs.Fold.{fold}
use Rattle.laws.specs.Sieve.{sieve}
use Rattle.laws.specs.Elem.{elem}
use Rattle.floats_pick.specs.Pick.{larger, smaller}
use Rattle.floats.specs.Single.{◌⊕◌, ◌⊖◌, one}
use Rattle.assoc_similarity.specs.Overlap.{iou_batch}

-- 13.2767 and 0.3
abbrev pub limit : Float
limit = of_bits binary32 0x4154_6d5d

abbrev pub iou_limit : Float
iou_limit = of_bits binary32 0x3e99_999a

-- f32::MAX and f32::NEG_INFINITY
abbrev pub max_f32 : Float
max_f32 = of_bits binary32 0x7f7f_ffff

abbrev pub neg_infinity : Float
neg_infinity = of_bits binary32 0xff80_0000

-- min_mh_dists[i]
unfoldable pub min_mh_dist : (ℕ → ℕ → Float) → ℕ → ℕ → Float
min_mh_dist mh_dist trackers i = fold (λ least j. smaller least (mh_dist i j)) max_f32 trackers

-- far from all tracks and below the threshold
unfoldable pub is_candidate : (ℕ → ℕ → Float) → Float → ℕ → List Float → ℕ → Bool
is_candidate mh_dist det_thresh trackers scores i = lt limit (min_mh_dist mh_dist trackers i) && lt (get_or scores i nan) det_thresh

unfoldable pub boost_candidates : (ℕ → ℕ → Float) → Float → ℕ → ℕ → List Float → List ℕ
boost_candidates mh_dist det_thresh dets trackers scores = sieve (is_candidate mh_dist det_thresh trackers scores) (indices dets)

module _ (det_bboxes scores : List Float) (boost_candidates : List ℕ) where
  -- boost_candidates[i] and boost_candidates.len()
  abbrev pub candidate : ℕ → ℕ
  candidate i = get_or boost_candidates i 0

  abbrev pub count : ℕ
  count = length boost_candidates

  -- iou_batch(&boost_bboxes, &boost_bboxes), where boost_bboxes[i] is det_bboxes[boost_candidates[i]], less 1 at (i, i)
  unfoldable pub bdiou : ℕ → ℕ → Float
  bdiou i j =
      let iou : Float = iou_batch det_bboxes det_bboxes (candidate i) (candidate j) in
      cond (eqb i j) (iou ⊖ one) iou

  unfoldable pub bdiou_max : ℕ → Float
  bdiou_max i = fold (λ row_max j. larger row_max (bdiou i j)) neg_infinity count

  -- where bdiou_max <= iou_limit
  unfoldable pub remaining : List ℕ
  remaining = map candidate (sieve (λ i. le (bdiou_max i) iou_limit) (indices count))

  unfoldable pub args : List ℕ
  args = sieve (λ i. lt iou_limit (bdiou_max i)) (indices count)

  unfoldable pub tmp : ℕ → List ℕ
  tmp boxi = sieve (λ j. lt iou_limit (bdiou boxi j)) (indices count)

  unfoldable pub args_set : List ℕ
  args_set = map candidate args

  unfoldable pub args_tmp : ℕ → List ℕ
  args_tmp boxi = sieve (λ idx. elem idx args_set) (map candidate (tmp boxi)) ++ (candidate boxi ∷ [])

  unfoldable pub conf_max : ℕ → Float
  conf_max boxi = foldl (λ most idx. larger most (get_or scores idx nan)) neg_infinity (args_tmp boxi)

  -- what the loop over args pushes for boxi: nothing where args_tmp is empty
  unfoldable pub is_most : ℕ → Bool
  is_most boxi = not (eqb (length (args_tmp boxi)) 0) && eq (get_or scores (candidate boxi) nan) (conf_max boxi)

  unfoldable pub remaining_boxes : List ℕ
  remaining_boxes = remaining ++ map candidate (sieve is_most args)

  -- det_thresh + 1e-4 where boost_mask[i]
  unfoldable pub masked : Float → ℕ → List Float
  masked det_thresh dets = tab (λ i. cond (elem i remaining_boxes) (det_thresh ⊕ of_bits binary32 0x38d1_b717) (get_or scores i nan)) dets

unfoldable pub duo_confidence_boost : ℕ → Float → List Float → (ℕ → ℕ → Float) → ℕ → ℕ → List Float → List Float
duo_confidence_boost frame_count det_thresh det_bboxes mh_dist dets trackers scores =
    let candidates : List ℕ = boost_candidates mh_dist det_thresh dets trackers scores in
    cond (eqb trackers 0 || (eqb dets 0 || leb frame_count 1)) scores
    (cond (eqb dets 0 || eqb trackers 0) scores
    (cond (eqb (length candidates) 0) scores
    (masked det_bboxes scores candidates det_thresh dets)))
