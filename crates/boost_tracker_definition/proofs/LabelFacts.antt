-- The labels of the tracks through a frame: those held keep theirs, and new ones have their boxes'. Assumes nothing.
use mathlib.Core.Path.{◌≡◌, sym, ap, subst, ◌∙◌}
use mathlib.Core.Bool.{true}
use mathlib.Core.List.{List, ◌++◌, map}
use Prim.Native.Nat.{ℕ, ◌+◌, ◌-◌, ◌≤◌, ◌<◌}
use native.Mathlib.Nat.{lt_of_not-le}
use native.Mathlib.Decide.{dec_le}
use native.Mathlib.Omega.{arith}
use lib.ListN.{length, length-append, length-map, get_or, get_or-append}
use lib.Seq.{get_or-append-add}
use lib.Ieee.{Float}
use Rattle.laws.specs.Tab.{map_at}
use Rattle.laws.specs.Picked.{picked-below}
use Rattle.labels.specs.Label.{is_label, label_at, same_label}
use Rattle.boost_tracker_verdict.specs.Boxes.{Boxes}
use Rattle.boost_tracker_definition.specs.Update.{remains, remain_inds, det_labels, Stages, labels_started}
use Rattle.boost_tracker_definition.specs.Facts.{pair_at, labels_of_boxes, labels_all}

pub remain_below : (thresh : Float) (l : List Float) (k : ℕ) → k < length (remain_inds thresh l) → get_or (remain_inds thresh l) k 0 < length l
unfolding remain_inds
remain_below thresh l k h = picked-below (remains thresh l) (length l) k h

-- ---- a frame

-- what is known of the labels of an accepted frame
pub record Labelled (boxes : Boxes) (labels : List ℕ) (held : ℕ) (g : Stages) : Type 0 where
  pub many : length labels ≡ held
  pub olds : (j : ℕ) → j < held → is_label (label_at labels j) ≡ true
  pub news : (k : ℕ) → k < length g.result.unmatched_detections → is_label (label_at boxes.labels (get_or g.remain_inds (get_or g.result.unmatched_detections k 0) 0)) ≡ true
  pub within : (k : ℕ) → k < length g.result.unmatched_detections → get_or g.result.unmatched_detections k 0 < length g.remain_inds
  pub alike : (k : ℕ) → k < length g.result.matches → same_label (label_at (labels_of_boxes boxes g) (pair_at g k).box) (label_at labels (pair_at g k).track) ≡ true

module _ (boxes : Boxes) (labels : List ℕ) (held : ℕ) (g : Stages) (w : Labelled boxes labels held g) where
  abbrev unmatched : List ℕ
  unmatched = g.result.unmatched_detections

  abbrev fresh : List ℕ
  fresh = map (label_at (labels_of_boxes boxes g)) unmatched

  pub labels-many : length (labels_all boxes labels g) ≡ held + length unmatched
  unfolding labels_started
  labels-many = simp (length-append, length-map) (ap (λ (n : ℕ). n + length unmatched) w.many)

  pub old_label : (i : ℕ) → i < held → label_at (labels_all boxes labels g) i ≡ label_at labels i
  unfolding labels_started
  old_label i h = get_or-append labels _ 0 i (rw w.many h)

  pub new_label : (k : ℕ) → k < length unmatched → label_at (labels_all boxes labels g) (held + k) ≡ label_at boxes.labels (get_or g.remain_inds (get_or unmatched k 0) 0)
  unfolding labels_started det_labels
  new_label k h =
      let behind : label_at (labels ++ fresh) (held + k) ≡ label_at fresh k = rw w.many at (get_or-append-add labels fresh k 0) in
      behind ∙ map_at (label_at (labels_of_boxes boxes g)) unmatched k 0 0 h ∙ map_at (label_at boxes.labels) g.remain_inds (get_or unmatched k 0) 0 0 (w.within k h)

  -- what holds of the held tracks' labels and of those of the boxes that start tracks holds of all
  pub all-labels : (P : ℕ → Type 0) → ((j : ℕ) → j < held → P (label_at labels j)) → ((k : ℕ) → k < length unmatched → P (label_at boxes.labels (get_or g.remain_inds (get_or unmatched k 0) 0)))
      → (i : ℕ) → i < held + length unmatched → P (label_at (labels_all boxes labels g) i)
  all-labels P olds news i h = by_order (dec_le held i)
    where
      by_order : Dec (held ≤ i) → P (label_at (labels_all boxes labels g) i)
      by_order (yes q) =
          let k : ℕ = i - held in
          let c : k < length unmatched = omega arith in
          let e : held + k ≡ i = omega arith in
          subst (λ (n : ℕ). P (label_at (labels_all boxes labels g) n)) e (subst P (sym (new_label k c)) (news k c))
      by_order (no q) = subst P (sym (old_label i (lt_of_not-le q))) (olds i (lt_of_not-le q))
