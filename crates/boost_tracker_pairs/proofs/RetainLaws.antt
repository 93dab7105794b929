-- The boxes that are retained: what the loops know and leave. Assumes nothing.
use mathlib.Core.Path.{◌≡◌, refl, sym, ap, ◌∙◌}
use mathlib.Core.Bool.{Bool, true, false, cond}
use mathlib.Core.List.{List, [], ◌∷◌, ◌++◌, map, map-append, append-nil}
use Prim.Native.Nat.{ℕ, ◌+◌, ◌-◌, ◌≤◌, ◌<◌, zero-le}
use native.Mathlib.Numerals.{add-one}
use native.Mathlib.Omega.{arith}
use lib.ListN.{length, length-map, get_or, set, drop}
use lib.Seq.{take_at}
use lib.Ieee.{Float, nan, le}
use Rattle.laws.specs.Tab.{tab, length-tab, indices}
use borrow.Rule.Slice.PartMut.{put_mid}
use Rattle.laws.specs.Splice.{splice, mid_splice}
use Rattle.strack.specs.declared.rect.Xyxy.{Xyxy}
use Rattle.laws.specs.Laid.{rows, laid, length-rows}
use Rattle.laws.specs.Sieve.{sieve, maybe, sieve-more, sieve-few}
use Rattle.laws.specs.Over.{over, Pushed, push_start, push_maybe, over_past}
use Rattle.labels.specs.Label.{label_at}
use Rattle.boost_tracker_definition.specs.Update.{corners_of, xyxy_of, remains, remain_inds, det_bboxes, det_scores, det_labels}
use Rattle.boost_tracker_verdict.specs.Boxes.{boxes_with}
use Rattle.boost_tracker_pairs.specs.Private.{KeptBoxes, box_lists_with, Retained}

-- ---- corners

-- four floats stored where they were lent
pub four_stored : (l : List Float) (at : ℕ) {vs : List Float} {b : Xyxy} → vs ≡ corners_of b → put_mid at (at + 4 - at) l vs ≡ splice l at (corners_of b)
four_stored l at {vs} e = mid_splice l at 4 vs (ap length e) ∙ ap (splice l at) e

-- ---- what belongs to the retained among the first i boxes

abbrev kept_of : {A : Type 0} → (ℕ → A) → Float → List Float → ℕ → List A
kept_of of thresh l i = map of (sieve (remains thresh l) (indices i))

kept_more : {A : Type 0} (of : ℕ → A) (thresh : Float) (l : List Float) (i : ℕ) → kept_of of thresh l i ++ maybe (remains thresh l i) (of i) ≡ kept_of of thresh l (i + 1)
unfolding tab
kept_more of thresh l i = rw (add-one, sieve-more) (by_cases (remains thresh l i))
  where
    by_cases : (b : Bool) → map of (sieve (remains thresh l) (indices i)) ++ maybe b (of i)
        ≡ map of (cond b (sieve (remains thresh l) (indices i) ++ (i ∷ [])) (sieve (remains thresh l) (indices i)))
    by_cases true = sym (map-append of (sieve (remains thresh l) (indices i)) (i ∷ []))
    by_cases false = append-nil _

-- as many as are counted, and no more than were looked at
count_low : {w w' i : ℕ} (b : Bool) → w ≤ i → w' ≡ cond b (w + 1) w → w' ≤ i + 1
count_low true f e = omega arith
count_low false f e = omega arith

-- ---- scores

abbrev kept_scores : Float → List Float → ℕ → List Float
kept_scores thresh l i = kept_of (λ k. get_or l k nan) thresh l i

pub record Scoring (thresh : Float) (l : List Float) (n i w : ℕ) (out : List Float) : Type 0 where
  pub upto : i ≤ n
  pub few : w ≤ i
  pub pushed : Pushed l (kept_scores thresh l i) w out

module _ (thresh : Float) (l : List Float) (n : ℕ) where
  pub score-start : Scoring thresh l n 0 0 l
  unfolding tab sieve
  score-start = record { upto = zero-le; few = zero-le; pushed = push_start l }

  module _ {i w : ℕ} {out : List Float} (s : Scoring thresh l n i w out) where
    -- the score that is looked at is not stored over yet
    score-ahead : get_or out i nan ≡ get_or l i nan
    score-ahead = ap (λ (o : List Float). get_or o i nan) s.pushed.cells ∙ over_past (kept_scores thresh l i) l i nan (let m = s.pushed.many in let f = s.few in omega arith)

    pub score-on : {w' : ℕ} {out' : List Float} → i < n → n ≡ length l → w' ≡ cond (le thresh (get_or out i nan)) (w + 1) w → out' ≡ cond (le thresh (get_or out i nan)) (set out w (get_or out i nan)) out
        → Scoring thresh l n (i + 1) w' out'
    score-on {w'} {out'} h e ew eo =
        let few = s.few in
        let ew' : w' ≡ cond (remains thresh l i) (w + 1) w = rw score-ahead at ew in
        let eo' : out' ≡ cond (remains thresh l i) (set out w (get_or l i nan)) out = rw score-ahead at eo in
        record {
          upto = omega arith;
          few = count_low (remains thresh l i) few ew';
          pushed = rw (← kept_more (λ k. get_or l k nan) thresh l i) (push_maybe l (remains thresh l i) (get_or l i nan) s.pushed (λ _. omega arith) ew' eo');
        }

    pub score-end : n ≤ i → n ≡ length l → Pushed l (det_scores l (remain_inds thresh l)) w out
    unfolding det_scores remain_inds
    score-end h e = let k : i ≡ length l = let u = s.upto in omega arith in rw k at s.pushed

-- ---- labels

-- of the boxes with the scores l, pushed onto out₀
pub record Labelling (thresh : Float) (l : List Float) (box_labels out₀ : List ℕ) (i w : ℕ) (out : List ℕ) : Type 0 where
  pub upto : i ≤ length l
  pub few : w ≤ i
  pub pushed : Pushed out₀ (kept_of (label_at box_labels) thresh l i) w out

module _ (thresh : Float) (l : List Float) (box_labels out₀ : List ℕ) where
  pub label_start : Labelling thresh l box_labels out₀ 0 0 out₀
  unfolding tab sieve
  label_start = record { upto = zero-le; few = zero-le; pushed = push_start out₀ }

  module _ {i w : ℕ} {out : List ℕ} (s : Labelling thresh l box_labels out₀ i w out) where
    pub label_on : {w' label : ℕ} {out' : List ℕ} → length l ≤ length out₀ → i < length l → label ≡ label_at box_labels i → w' ≡ cond (remains thresh l i) (w + 1) w
        → out' ≡ cond (remains thresh l i) (set out w label) out → Labelling thresh l box_labels out₀ (i + 1) w' out'
    label_on {w'} {label} {out'} room h el ew eo =
        let few = s.few in
        record {
          upto = omega arith;
          few = count_low (remains thresh l i) few ew;
          pushed = rw (← kept_more (label_at box_labels) thresh l i) (push_maybe out₀ (remains thresh l i) (label_at box_labels i) s.pushed (λ _. omega arith) ew (rw el at eo));
        }

    pub label_end : length l ≤ i → Pushed out₀ (det_labels box_labels (remain_inds thresh l)) w out
    unfolding det_labels remain_inds
    label_end h = let k : i ≡ length l = let u = s.upto in omega arith in rw k at s.pushed

-- ---- all three

remain_many : (thresh : Float) (l : List Float) → length (remain_inds thresh l) ≤ length l
unfolding remain_inds
remain_many thresh l = rw (length-tab (λ i. i) (length l)) at (sieve-few (remains thresh l) (indices (length l)))

pub retained-all : (thresh : Float) (objects probs₀ corners₀ : List Float) (box_labels labels₀ : List ℕ) {probs corners : List Float} {labels : List ℕ} {kept w v : ℕ} → KeptBoxes thresh objects probs₀ corners₀ corners kept
    → Pushed labels₀ (det_labels box_labels (remain_inds thresh probs₀)) v labels → Pushed probs₀ (det_scores probs₀ (remain_inds thresh probs₀)) w probs
    → Retained thresh (boxes_with objects box_labels) (box_lists_with probs₀ corners₀ labels₀) (box_lists_with probs corners labels) kept
unfolding det_bboxes det_scores laid over
retained-all thresh objects probs₀ corners₀ box_labels labels₀ {probs} {corners} {labels} {kept} {w} {v} b n s =
    let inds : List ℕ = remain_inds thresh probs₀ in
    let of : ℕ → List Float = λ i. corners_of (xyxy_of objects i) in
    let few : length inds ≤ length probs₀ = remain_many thresh probs₀ in
    record {
      count = b.count;
      corners_are = b.cells ∙ ap (λ (k : ℕ). rows of inds ++ drop k corners₀) (sym (length-rows of 4 (λ _. refl) inds));
      scores_are = rw (s.cells, b.count) (take_at (map (λ i. get_or probs₀ i nan) inds) _ (length inds) (length-map inds (λ i. get_or probs₀ i nan)));
      labels_are = n.cells;
      few = rw b.count few;
    }
