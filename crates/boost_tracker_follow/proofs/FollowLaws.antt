-- Tracks corrected by their boxes, and tracks started for the others with their labels: what the loops know, and what the tests before them tell. Assumes nothing.
use Rattle.std.proofs.Common.{Result, Ok, Err}
use mathlib.Core.Path.{◌≡◌, refl, sym, ap, ◌∙◌}
use mathlib.Core.Bool.{Bool, true, false, ◌&&◌}
use mathlib.Core.List.{List, [], ◌∷◌, ◌++◌, append_assoc, append-nil}
use Prim.Native.Nat.{ℕ, ◌+◌, ◌-◌, ◌/◌, ◌≤◌, ◌<◌, zero-le}
use native.Mathlib.Nat.{le_of_eq}
use native.Mathlib.Omega.{arith}
use lib.ListN.{length, length-append, length-map, length-set, get_or, take, drop}
use lib.Seq.{length-take-le}
use lib.Ieee.{Float}
use Rattle.laws.specs.Tests.{and_left, and_right}
use Rattle.laws.specs.Tab.{tab, length-tab, tab-more}
use Rattle.laws.specs.Fold.{fold, fold_more}
use borrow.Rule.Slice.PartMut.{put_mid}
use Rattle.laws.specs.Splice.{splice, mid_splice}
use Rattle.laws.specs.Over.{over}
use Rattle.labels.specs.Label.{label_at}
use Rattle.strack.specs.declared.rect.Xyxy.{Xyxy}
use Rattle.strack.specs.Strack.{new}
use Rattle.boost_tracker_mh_dist.specs.MhDist.{det}
use Rattle.boost_tracker_table.specs.Table.{Track, capacity, places_in, tracks, corrected, pushed, Laying}
use Rattle.boost_tracker_table.proofs.Laws.{low-room, tracks-many, lay_here, lay_lengths, lay_next, pushed_room, laid_table}
use Rattle.refusals.specs.declared.refusal.Refusal.{Refusal}
use Rattle.refusals.specs.declared.refusal.Refusal.TheVariants.{OtherSize, TooShort}
use Rattle.assoc_assignment.specs.declared.assignment.AssignmentCounts.{AssignmentCounts}
use Rattle.boost_tracker_table.specs.Lent.{Table, table_with, laid_over, call_with}
use Rattle.boost_tracker_follow.specs.Corrections.{inside, fits, Listed, tracks_after, labels_after, followed_listed, followed}
use Rattle.boost_tracker_follow.proofs.FitLaws.{FollowRoom, fits-room, room_fits, listed-inside}
use Rattle.boost_tracker_definition.specs.Plain.{corrected_by, correct_one, started_by, start_at, started_labels}
use Rattle.boost_tracker_definition.proofs.PlainLaws.{correct_many, corrected-many}

-- ---- the loop of corrections

pub record Correcting (corners : List Float) (pair_boxes pair_tracks : List ℕ) (held : ℕ) (f₀ : List Float) (c₀ : List ℕ) (k : ℕ) (f : List Float) (c : List ℕ) : Type 0 where
  pub upto : k ≤ length pair_boxes
  pub laying : Laying f₀ c₀ f c (fold (correct_one corners pair_boxes pair_tracks) (tracks f₀ c₀ held) k)
  pub same-f : length f ≡ length f₀
  pub same-c : length c ≡ length c₀

module _ (corners : List Float) (pair_boxes pair_tracks : List ℕ) (held : ℕ) (f₀ : List Float) (c₀ : List ℕ) (room : held ≤ capacity (length f₀) (length c₀)) where
  pub correct_start : Correcting corners pair_boxes pair_tracks held f₀ c₀ 0 f₀ c₀
  unfolding fold
  correct_start = record { upto = zero-le; laying = lay_here f₀ c₀ held; same-f = refl; same-c = refl }

  pub correct_on : {k : ℕ} {f f' : List Float} {c c' : List ℕ} {bbox : Xyxy} → Correcting corners pair_boxes pair_tracks held f₀ c₀ k f c → k < length pair_boxes → bbox ≡ det corners (get_or pair_boxes k 0)
      → Laying f c f' c' (corrected (tracks f c held) (get_or pair_tracks k 0) bbox) → Correcting corners pair_boxes pair_tracks held f₀ c₀ (k + 1) f' c'
  correct_on {k} {f} {f'} {c} {c'} {bbox} w h e v =
      let xs : List Track = fold (correct_one corners pair_boxes pair_tracks) (tracks f₀ c₀ held) k in
      let many : length xs ≡ held = correct_many corners pair_boxes pair_tracks (tracks f₀ c₀ held) k ∙ tracks-many f₀ c₀ held room in
      let next : Laying f₀ c₀ f' c' (correct_one corners pair_boxes pair_tracks xs k) =
      lay_next w.laying (λ ts. correct_one corners pair_boxes pair_tracks ts k) many room (rw e at v) (le_of_eq (sym (length-set xs _ _))) in
      let laying : Laying f₀ c₀ f' c' (fold (correct_one corners pair_boxes pair_tracks) (tracks f₀ c₀ held) (k + 1)) = rw (fold_more (correct_one corners pair_boxes pair_tracks) (tracks f₀ c₀ held) k) at next in
      let len : length (fold (correct_one corners pair_boxes pair_tracks) (tracks f₀ c₀ held) (k + 1)) ≡ held = correct_many corners pair_boxes pair_tracks (tracks f₀ c₀ held) (k + 1) ∙ tracks-many f₀ c₀ held room in
      let same = lay_lengths laying (rw len (low-room room)) in
      record { upto = omega arith; laying = laying; same-f = same.0; same-c = same.1 }

  pub correct_end : {k : ℕ} {f : List Float} {c : List ℕ} → Correcting corners pair_boxes pair_tracks held f₀ c₀ k f c → length pair_boxes ≤ k
      → Laying f₀ c₀ f c (corrected_by corners pair_boxes pair_tracks (tracks f₀ c₀ held))
  unfolding corrected_by
  correct_end {k} w h = let e : k ≡ length pair_boxes = let u = w.upto in omega arith in rw e at w.laying

-- ---- the loop of starts

pub record Starting (last : ℕ) (corners : List Float) (unmatched : List ℕ) (held : ℕ) (f₀ : List Float) (c₀ : List ℕ) (id k : ℕ) (f : List Float) (c : List ℕ) : Type 0 where
  pub upto : k ≤ length unmatched
  pub id_is : id ≡ last + k
  pub laying : Laying f₀ c₀ f c (tracks f₀ c₀ held ++ tab (start_at last corners unmatched) k)
  pub same-f : length f ≡ length f₀
  pub same-c : length c ≡ length c₀

module _ (last : ℕ) (corners : List Float) (unmatched : List ℕ) (held : ℕ) (f₀ : List Float) (c₀ : List ℕ) (room : held + length unmatched ≤ capacity (length f₀) (length c₀)) where
  pub start-start : Starting last corners unmatched held f₀ c₀ last 0 f₀ c₀
  unfolding tab
  start-start = record { upto = zero-le; id_is = omega arith; laying = rw (append-nil (tracks f₀ c₀ held)) (lay_here f₀ c₀ held); same-f = refl; same-c = refl }

  start-many : (k : ℕ) → length (tracks f₀ c₀ held ++ tab (start_at last corners unmatched) k) ≡ held + k
  start-many k =
      let h : held ≤ capacity (length f₀) (length c₀) = omega arith in
      length-append (tracks f₀ c₀ held) (tab (start_at last corners unmatched) k) ∙ rw (tracks-many f₀ c₀ held h, length-tab (start_at last corners unmatched) k)

  pub start-on : {id k : ℕ} {f f' : List Float} {c c' : List ℕ} {bbox : Xyxy} {t : Track} → Starting last corners unmatched held f₀ c₀ id k f c → k < length unmatched
      → bbox ≡ det corners (get_or unmatched k 0) → t ≡ new bbox (id + 1) → Laying f c f' c' (pushed (capacity (length f) (length c)) (tracks f c (held + k)) t)
      → Starting last corners unmatched held f₀ c₀ (id + 1) (k + 1) f' c'
  start-on {id} {k} {f} {f'} {c} {c'} {bbox} {t} w h eb et v =
      let xs : List Track = tracks f₀ c₀ held ++ tab (start_at last corners unmatched) k in
      let is : t ≡ start_at last corners unmatched k = et ∙ ap (λ (b : Xyxy). new b (id + 1)) eb ∙ ap (λ (n : ℕ). new (det corners (get_or unmatched k 0)) (n + 1)) w.id_is in
      let cap : capacity (length f) (length c) ≡ capacity (length f₀) (length c₀) = rw (w.same-f, w.same-c) in
      let fits : held + k ≤ capacity (length f₀) (length c₀) = omega arith in
      let grown : pushed (capacity (length f) (length c)) xs t ≡ xs ++ (start_at last corners unmatched k ∷ []) = pushed_room (capacity (length f) (length c)) xs t (rw (start-many k, cap) (omega arith)) ∙ rw is in
      let whole : xs ++ (start_at last corners unmatched k ∷ []) ≡ tracks f₀ c₀ held ++ tab (start_at last corners unmatched) (k + 1) =
      append_assoc (tracks f₀ c₀ held) (tab (start_at last corners unmatched) k) (start_at last corners unmatched k ∷ []) ∙ ap (λ (l : List Track). tracks f₀ c₀ held ++ l) (tab-more (start_at last corners unmatched) k) in
      let longer : length xs ≤ length (pushed (capacity (length f) (length c)) xs t) = rw (grown ∙ whole, start-many (k + 1), start-many k) (omega arith) in
      let laying : Laying f₀ c₀ f' c' (tracks f₀ c₀ held ++ tab (start_at last corners unmatched) (k + 1)) =
      rw (grown ∙ whole) at (lay_next w.laying (λ ts. pushed (capacity (length f) (length c)) ts t) (start-many k) fits v longer) in
      let same = lay_lengths laying (rw (start-many (k + 1)) (low-room (omega arith))) in
      let i = w.id_is in
      record { upto = omega arith; id_is = omega arith; laying = laying; same-f = same.0; same-c = same.1 }

  pub start-end : {id k : ℕ} {f : List Float} {c : List ℕ} → Starting last corners unmatched held f₀ c₀ id k f c → length unmatched ≤ k
      → Laying f₀ c₀ f c (tracks f₀ c₀ held ++ started_by last corners unmatched)
  unfolding started_by
  start-end {id} {k} w h = let e : k ≡ length unmatched = let u = w.upto in omega arith in rw e at w.laying

-- ---- both

pub both_laid : (corners : List Float) (pair_boxes pair_tracks unmatched : List ℕ) (last held : ℕ) {f₀ f₁ f₂ : List Float} {c₀ c₁ c₂ : List ℕ} → held ≤ capacity (length f₀) (length c₀)
    → Laying f₀ c₀ f₁ c₁ (corrected_by corners pair_boxes pair_tracks (tracks f₀ c₀ held)) → Laying f₁ c₁ f₂ c₂ (tracks f₁ c₁ held ++ started_by last corners unmatched)
    → Laying f₀ c₀ f₂ c₂ (corrected_by corners pair_boxes pair_tracks (tracks f₀ c₀ held) ++ started_by last corners unmatched)
both_laid corners pair_boxes pair_tracks unmatched last held {f₀} {f₁} {f₂} {c₀} {c₁} {c₂} room p q =
    let xs : List Track = corrected_by corners pair_boxes pair_tracks (tracks f₀ c₀ held) in
    lay_next p (λ ts. ts ++ started_by last corners unmatched) (corrected-many corners pair_boxes pair_tracks (tracks f₀ c₀ held) ∙ tracks-many f₀ c₀ held room) room q
    (rw (length-append xs (started_by last corners unmatched)) (omega arith))

-- ---- the labels

-- the labels of boxes, stored where they were lent
pub labels_stored : (l : List ℕ) (held : ℕ) (box_labels unmatched : List ℕ) {vs : List ℕ} → vs ≡ started_labels box_labels unmatched
    → put_mid held (held + length unmatched - held) l vs ≡ splice l held (started_labels box_labels unmatched)
unfolding started_labels
labels_stored l held box_labels unmatched {vs} e = mid_splice l held (length unmatched) vs (ap length e ∙ length-map unmatched (label_at box_labels)) ∙ ap (splice l held) e

-- labels stored behind those held
pub behind-held : (l xs : List ℕ) (held : ℕ) → held ≤ length l → splice l held xs ≡ over (take held l ++ xs) l
unfolding over
behind-held l xs held h = rw (length-append (take held l) xs, length-take-le held l h) (sym (append_assoc (take held l) xs (drop (held + length xs) l)))

-- ---- the indices

module _ (held last : ℕ) (corners : List Float) (box_labels : List ℕ) (counts : AssignmentCounts) (pair_boxes pair_tracks unmatched : List ℕ) (f : List Float) (c l : List ℕ) {a b : Bool}
    (ea : a ≡ inside pair_boxes (length corners / 4)) (eb : b ≡ inside unmatched (length corners / 4)) where
  -- some index is of no box
  pub not_listed : (a && b) ≡ false → call_with (Err OtherSize) (table_with f c l) ≡ followed_listed held last corners box_labels counts pair_boxes pair_tracks unmatched (table_with f c l)
  unfolding followed_listed
  not_listed h = rw (← ea, ← eb, h)

  pub both_inside : (a && b) ≡ true → (inside pair_boxes (length corners / 4) ≡ true) × (inside unmatched (length corners / 4) ≡ true)
  both_inside h = (sym ea ∙ and_left a b h, sym eb ∙ and_right a b h)

  pub listed : {f₁ f₂ : List Float} {c₁ c₂ l₂ : List ℕ} → (a && b) ≡ true → held ≤ places_in (length f) (length c) (length l)
      → Laying f c f₁ c₁ (corrected_by corners pair_boxes pair_tracks (tracks f c held)) → Laying f₁ c₁ f₂ c₂ (tracks f₁ c₁ held ++ started_by last corners unmatched)
      → l₂ ≡ splice l held (started_labels box_labels unmatched)
      → call_with (Ok counts) (table_with f₂ c₂ l₂) ≡ followed_listed held last corners box_labels counts pair_boxes pair_tracks unmatched (table_with f c l)
  unfolding followed_listed
  listed h room p q e =
      let known = both_inside h in
      let named = e ∙ behind-held l (started_labels box_labels unmatched) held (omega (arith, room)) in
      rw (known.0, known.1) (ap (λ (t : Table). call_with (Ok counts) t) (laid_table l (take held l ++ started_labels box_labels unmatched) (both_laid corners pair_boxes pair_tracks unmatched last held (omega (arith, room)) p q) named))

-- ---- a call

module _ (held last : ℕ) (corners : List Float) (box_labels : List ℕ) (counts : AssignmentCounts) (pair_boxes pair_tracks unmatched : List ℕ) (f : List Float) (c l : List ℕ) where
  abbrev places : ℕ
  places = places_in (length f) (length c) (length l)

  abbrev fitting : Bool
  fitting = fits held places last counts (length pair_boxes) (length pair_tracks) (length unmatched)

  module _ {r : Bool} {n : ℕ} (e : n ≡ places) (h : r ≡ fits held n last counts (length pair_boxes) (length pair_tracks) (length unmatched)) where
    known : r ≡ fitting
    known = rw e at h

    pub not_fitting : r ≡ false → call_with (Err TooShort) (table_with f c l) ≡ followed held last corners box_labels counts pair_boxes pair_tracks unmatched (table_with f c l)
    unfolding followed
    not_fitting t = rw (sym known ∙ t)

    pub room_of : r ≡ true → FollowRoom held places last counts (length pair_boxes) (length pair_tracks) (length unmatched)
    room_of t = fits-room (sym known ∙ t)

    pub follows : {f' : List Float} {c' l' : List ℕ} {q : Result AssignmentCounts Refusal} → r ≡ true
        → call_with q (table_with f' c' l') ≡ followed_listed held last corners box_labels counts (take counts.pairs pair_boxes) (take counts.pairs pair_tracks) (take counts.detections unmatched) (table_with f c l)
        → call_with q (table_with f' c' l') ≡ followed held last corners box_labels counts pair_boxes pair_tracks unmatched (table_with f c l)
    unfolding followed
    follows t w = rw (sym known ∙ t) w

  -- for callers, where it can be done
  pub followed-is : FollowRoom held places last counts (length pair_boxes) (length pair_tracks) (length unmatched)
      → Listed (take counts.pairs pair_boxes) (length corners) → Listed (take counts.detections unmatched) (length corners)
      → followed held last corners box_labels counts pair_boxes pair_tracks unmatched (table_with f c l)
      ≡ call_with (Ok counts) (laid_over (tracks_after held last corners (take counts.pairs pair_boxes) (take counts.pairs pair_tracks) (take counts.detections unmatched) (table_with f c l))
      (labels_after held box_labels (take counts.detections unmatched) (table_with f c l)) (table_with f c l))
  unfolding followed followed_listed
  followed-is room a b = rw (room_fits room, listed-inside (take counts.pairs pair_boxes) (length corners) a, listed-inside (take counts.detections unmatched) (length corners) b)
