-- Where the direct path is taken, and what holds of an accepted call of match_detections, of the definitions alone. Assumes nothing.
use Rattle.std.proofs.Common.{◌≡◌, ℕ, ◌≤◌, max, Bool, true, false, cond, List, length, sym, refl, ap, ◌∙◌, Ok}
use native.Mathlib.Nat.{le-max_left, le-max_right}
use lib.Ieee.{Float}
use Rattle.laws.specs.Tests.{and_left, and_right}
use Rattle.laws.specs.Over.{over}
use Rattle.lapjv_definition.specs.Lapjv.{lapjv}
use Rattle.refusals.proofs.Laws.{accepted_of}
use Rattle.assoc_matching.specs.Matching.{Pair, boxes_of, tracks_of, simple, simple_matches, cost_vec, matched, match_detections}
use Rattle.assoc_matching.specs.Direct.{OneAbove, by_lapjv, is_matrix, is_direct, direct_call_of, direct_call}
use Rattle.assoc_matching.specs.Account.{OneToOne}
use Rattle.assoc_matching.specs.Answers.{MatchLent, match_verdict, match_call}
use Rattle.assoc_matching.proofs.AnswerLaws.{match_ready}
use Rattle.assoc_matching.proofs.MatchLaws.{match_direct, match_solved, extracted-pairs}
use Rattle.assoc_matching.proofs.OneAboveLaws.{simple-one, one-simple}
use Rattle.assoc_matching.proofs.AccountLaws.{one_to_one}

-- match_detections, of any bit patterns: the direct path exactly where no row and no column has more than one cost strictly above the threshold, and lapjv elsewhere
module _ (cost : List Float) (nrows ncols : ℕ) (threshold : Float) (few-rows : nrows ≤ 255) (few-cols : ncols ≤ 255) where
  pub matched_directly : OneAbove cost nrows ncols threshold → match_detections cost nrows ncols threshold ≡ matched (simple_matches cost nrows ncols threshold) 0 0
  matched_directly o = match_direct cost nrows ncols threshold few-rows few-cols (one-simple cost nrows ncols threshold o)

  pub matched_by_lapjv : (OneAbove cost nrows ncols threshold → ⊥) → match_detections cost nrows ncols threshold ≡ by_lapjv cost nrows ncols
  matched_by_lapjv several =
      let n = max nrows ncols in
      let a = lapjv n (cost_vec cost nrows ncols n) in
      match_solved cost nrows ncols threshold few-rows few-cols (not_simple (simple cost nrows ncols threshold) refl)
      ∙ ap (λ (ps : List Pair). matched ps a.turns a.scans) (sym (extracted-pairs a.x n nrows ncols (le-max_left nrows ncols) (le-max_right nrows ncols)))
    where
      not_simple : (v : Bool) → simple cost nrows ncols threshold ≡ v → simple cost nrows ncols threshold ≡ false
      not_simple true e = absurd (several (simple-one cost nrows ncols threshold e))
      not_simple false e = e

-- and so of the function that takes the path for it, by `direct_call`,
module _ (cost : List Float) (nrows ncols : ℕ) (threshold : Float) (pair_boxes pair_tracks : List ℕ) where
  taken_is : (direct_call cost nrows ncols threshold pair_boxes pair_tracks).taken ≡ simple cost nrows ncols threshold
  unfolding direct_call
  taken_is = by_cases (simple cost nrows ncols threshold)
    where
      by_cases : (v : Bool) → (cond v
          (direct_call_of true (length (simple_matches cost nrows ncols threshold)) (over (boxes_of (simple_matches cost nrows ncols threshold)) pair_boxes) (over (tracks_of (simple_matches cost nrows ncols threshold)) pair_tracks))
          (direct_call_of false 0 pair_boxes pair_tracks)).taken ≡ v
      by_cases true = refl
      by_cases false = refl

  pub taken-only_where : (direct_call cost nrows ncols threshold pair_boxes pair_tracks).taken ≡ true → OneAbove cost nrows ncols threshold
  taken-only_where e = simple-one cost nrows ncols threshold (rw taken_is at e)

  pub taken_where : OneAbove cost nrows ncols threshold → (direct_call cost nrows ncols threshold pair_boxes pair_tracks).taken ≡ true
  taken_where o = rw taken_is (one-simple cost nrows ncols threshold o)

-- and of the one that linear_assignment asks, by `is_direct`, which what is no matrix never is
module _ (cost : List Float) (nrows ncols : ℕ) (threshold : Float) where
  pub open_only_where : is_direct cost nrows ncols threshold ≡ true → (is_matrix nrows ncols (length cost) ≡ true) × OneAbove cost nrows ncols threshold
  unfolding is_direct
  open_only_where e =
      let m = is_matrix nrows ncols (length cost) in
      let s = simple cost nrows ncols threshold in
      (and_left m s e, simple-one cost nrows ncols threshold (and_right m s e))

  pub open_where : is_matrix nrows ncols (length cost) ≡ true → OneAbove cost nrows ncols threshold → is_direct cost nrows ncols threshold ≡ true
  unfolding is_direct
  open_where m o = rw (m, one-simple cost nrows ncols threshold o)

module _ (boxes tracks : ℕ) (cost : List Float) (threshold : Float) (l : MatchLent) where
  -- its number is 0 only where no condition of a refusal holds
  pub match_passes : (match_call boxes tracks cost threshold l).number ≡ 0 → match_verdict boxes tracks (length cost) (length l.pair_boxes) (length l.pair_tracks) (length l.work) ≡ Ok tt
  unfolding match_call
  match_passes e = accepted_of _ e

  pub match_account : (match_call boxes tracks cost threshold l).number ≡ 0 → OneToOne boxes tracks (match_detections cost boxes tracks threshold)
  match_account e =
      let sides = (match_ready boxes tracks (length cost) (length l.pair_boxes) (length l.pair_tracks) (length l.work) (match_passes e)).sides in
      one_to_one cost boxes tracks threshold sides.few-rows sides.few-cols
