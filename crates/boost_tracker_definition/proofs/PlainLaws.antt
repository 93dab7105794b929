-- The plain words are the definition's: every retained score passes the threshold, correcting pair after pair is step 6, and starting a track for each unmatched box is step 7. Assumes nothing.
use mathlib.Core.Path.{◌≡◌, refl, ◌∙◌}
use mathlib.Core.List.{List, ◌++◌, map, append_assoc, append-nil}
use Prim.Native.Nat.{ℕ, zero, suc, ◌+◌, ◌≤◌, ◌<◌}
use native.Mathlib.Nat.{le_refl}
use native.Mathlib.Omega.{arith}
use lib.ListN.{length, length-set, length-map, get_or, get_or-map}
use lib.Ieee.{Float, nan}
use Rattle.laws.specs.Tab.{tab, get_d_any, indices}
use Rattle.laws.specs.Fold.{fold, fold_ext, fold_list}
use Rattle.laws.specs.Sieve.{sieve, sieve-at}
use Rattle.boost_tracker_mh_dist.specs.MhDist.{det}
use Rattle.assoc_matching.specs.Matching.{Pair, pair, boxes_of, tracks_of}
use Rattle.boost_tracker_table.specs.Table.{Track, corrected}
use Rattle.boost_tracker_definition.specs.Update.{remains, remain_inds, det_scores, matched, started_from, start_one, started}
use Rattle.boost_tracker_definition.specs.Plain.{Above, correct_one, corrected_by, start_at, started_by}

-- ---- step 3

-- every retained score is at least the threshold
pub all_above : (thresh : Float) (l : List Float) → Above thresh (det_scores l (remain_inds thresh l))
unfolding det_scores remain_inds
all_above thresh l k h =
    let inds : List ℕ = sieve (remains thresh l) (indices (length l)) in
    let n : k < length inds = rw (length-map inds (λ i. get_or l i nan)) at h in
    let f : ℕ → Float = λ i. get_or l i nan in
    rw (get_d_any (map f inds) k nan (f 0) h ∙ get_or-map f inds k 0) (sieve-at (remains thresh l) (indices (length l)) k 0 n)

-- ---- step 6

module _ (corners : List Float) (pair_boxes pair_tracks : List ℕ) where
  pub correct_many : (ts : List Track) (k : ℕ) → length (fold (correct_one corners pair_boxes pair_tracks) ts k) ≡ length ts
  unfolding fold
  correct_many ts zero = refl
  correct_many ts (suc k) = length-set (fold (correct_one corners pair_boxes pair_tracks) ts k) _ _ ∙ correct_many ts k

  pub corrected-many : (ts : List Track) → length (corrected_by corners pair_boxes pair_tracks ts) ≡ length ts
  unfolding corrected_by
  corrected-many ts = correct_many ts (length pair_boxes)

pub matched-is : (corners : List Float) (matches : List Pair) (ts : List Track) → matched corners matches ts ≡ corrected_by corners (boxes_of matches) (tracks_of matches) ts
unfolding matched corrected_by
matched-is corners matches ts =
    fold_list (λ (us : List Track) (p : Pair). corrected us p.track (det corners p.box)) ts matches (pair 0 0)
    ∙ rw (length-map matches (λ (p : Pair). p.box))
    (fold_ext _ _ ts (length matches) (λ us k h. rw (get_or-map (λ (p : Pair). p.box) matches k (pair 0 0), get_or-map (λ (p : Pair). p.track) matches k (pair 0 0))))

-- ---- step 7

module _ (thresh : Float) (corners probs : List Float) (unmatched : List ℕ) (last : ℕ) (ts : List Track) (above : Above thresh probs) (within : (k : ℕ) → k < length unmatched → get_or unmatched k 0 < length probs) where
  started-upto : (n : ℕ) → n ≤ length unmatched
      → fold (λ s k. start_one thresh corners probs s (get_or unmatched k 0)) (started_from last ts) n ≡ started_from (last + n) (ts ++ tab (start_at last corners unmatched) n)
  unfolding tab fold
  started-upto zero h = let e : last + 0 ≡ last = omega arith in rw (e, append-nil)
  started-upto (suc n) h =
      let e : last + suc n ≡ last + n + 1 = omega arith in
      rw (started-upto n (omega arith), above (get_or unmatched n 0) (within n h), append_assoc, e)

  -- every box that is left passes the Rust's test, so each starts a track
  pub started-is : started thresh corners probs unmatched (started_from last ts) ≡ started_from (last + length unmatched) (ts ++ started_by last corners unmatched)
  unfolding started started_by
  started-is = fold_list (start_one thresh corners probs) (started_from last ts) unmatched 0 ∙ started-upto (length unmatched) (le_refl (length unmatched))
