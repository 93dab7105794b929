-- What the frame does with a box, by its lot: the parts of specs/Facts. Assumes nothing.
use mathlib.Core.Path.{◌≡◌, refl, sym, ap, subst, ◌∙◌}
use mathlib.Core.Bool.{Bool, true, false, cond, not, ◌&&◌}
use mathlib.Core.List.{List, map, ◌++◌}
use Prim.Native.Nat.{ℕ, ◌+◌, ◌-◌, ◌*◌, ◌≤◌, ◌<◌}
use native.Mathlib.Omega.{arith}
use borrow.Author.Tests.{lt-ltb, le-leb}
use lib.ListN.{length, length-map, length-drop, take-append-drop, get_or, take, drop, get_or-map, get_or-append}
use lib.Seq.{length-take-le, get_or-take, get_or-drop, get_or-append-add}
use lib.Ieee.{Float, nan, le}
use Rattle.laws.specs.Tab.{tab-at, map_at}
use Rattle.laws.specs.Count.{bit}
use Rattle.laws.specs.Grid.{grid-at}
use Rattle.laws.specs.Elem.{elem, in-stands, stands-in, out_none}
use Rattle.laws.specs.Occurs.{occurs, occurs-append}
use Rattle.floats.specs.Single.{plus_zero}
use Rattle.labels.specs.Label.{label_at, same_label, alike, where_alike}
use Rattle.strack.specs.declared.rect.Xyxy.{Xyxy}
use Rattle.strack.specs.Strack as strack
use Rattle.strack.specs.Strack.{predict, get_state}
use Rattle.strack.proofs.Laws.{new_since, predict_id, hit_since, update-accepted}
use Rattle.assoc_boxes.specs.Overlap.{overlap}
use Rattle.assoc_similarity.specs.Overlap.{iou_batch}
use Rattle.assoc_matching.specs.Matching.{Pair, pair, boxes_of, tracks_of}
use Rattle.assoc_assignment.specs.Assignment.{Assignment, valid_match}
use Rattle.assoc_assignment.specs.Account.{Accounted}
use Rattle.assoc.specs.Association.{ious, stands}
use Rattle.assoc.proofs.Theorem.{stands_alike, stands-above}
use Rattle.boost_tracker_mh_dist.specs.MhDist.{det}
use Rattle.boost_tracker_settings.specs.declared.settings.Settings.{Settings}
use Rattle.boost_tracker_table.specs.Table.{Track, blank, young}
use Rattle.boost_tracker_table.specs.Lent.{Table, tracks_in, labels_in}
use Rattle.std.proofs.Common.{Ok}
use Rattle.boost_tracker_verdict.specs.declared.sound.State.{State}
use Rattle.boost_tracker_verdict.specs.Boxes.{Boxes}
use Rattle.boost_tracker_verdict.specs.Verdict.{boxes_in, verdict}
use Rattle.boost_tracker_verdict.specs.Ready.{Ready}
use Rattle.boost_tracker_verdict.proofs.ReadyLaws.{ready}
use Rattle.boost_tracker_definition.specs.Update.{tracker_at, xyxy_of, trks, remains, remain_inds, det_bboxes, det_labels, Started, Stages, stages_from, steps, update_by, update}
use Rattle.boost_tracker_definition.specs.Facts.{labels_of_boxes}
use Rattle.boost_tracker_definition.specs.Plain.{corrected_by, start_at, started_by}
use Rattle.boost_tracker_definition.proofs.PlainLaws.{corrected-many, matched-is}
use Rattle.boost_tracker_definition.proofs.FactLaws.{standing, frame_account, frame_facts, all-started, inds-many}
use Rattle.boost_tracker_fate.specs.declared.kinds.Lot.{Lot}
use Rattle.boost_tracker_fate.specs.declared.kinds.Lot.TheVariants.{Under, Paired, Refused, Alone}
use Rattle.boost_tracker_fate.specs.Fate.{place_in}
use Rattle.boost_tracker_fate.specs.Partner.{box_of}
use Rattle.boost_tracker_fate.proofs.PlaceLaws.{place-in}
use Rattle.boost_tracker_why.specs.Why.{retained_as, track_in, held_id, paired_with, lot_of}
use Rattle.boost_tracker_why.specs.Facts.{given_as, matched_boxes, rejected_boxes, unmatched_boxes, unpaired_boxes, ious_of, Told, MatchedTo, StartedAs, RejectedWith, LeftOut}
use Rattle.boost_tracker_why.proofs.GivenLaws.{sieve-once, occurs-given, corners-at}
use Rattle.boost_tracker_why.proofs.LotLaws.{unmatched-once}
use Rattle.boost_tracker_why.proofs.ToldLaws.{held-read}

-- a test that a pair did not pass
falls-so : (like : ℕ → ℕ → Bool) (iou : List Float) (tracks : ℕ) (threshold : Float) (p : Pair) → stands like iou tracks threshold p ≡ false
    → (like p.box p.track && le threshold (get_or iou (p.box * tracks + p.track) nan)) ≡ false
unfolding stands valid_match
falls-so like iou tracks threshold p e = e

module _ (s : Settings) (state : State) (t : Table) (boxes : Boxes) (out work64 work32 : ℕ) (e : verdict s state t boxes out work64 work32 ≡ Ok tt) (b : ℕ) (low : b < boxes_in boxes.values) where
  abbrev T : List Track
  T = tracks_in t state.count

  abbrev labels : List ℕ
  labels = labels_in t state.count

  abbrev g : Stages
  g = update s state boxes T labels

  abbrev found : Assignment
  found = g.result

  abbrev d : ℕ
  d = retained_as g b

  abbrev unmatched : List ℕ
  unmatched = found.unmatched_detections

  -- the unmatched boxes that are in no pair come first
  abbrev alone : ℕ
  alone = length unmatched - length found.rejected

  abbrev first : List ℕ
  first = take alone unmatched

  knows : Ready s state t boxes out work64 work32
  knows = ready s state t boxes out work64 work32 e

  account : Accounted (standing s g.det_bboxes (length g.det_scores) state.count g.trks (labels_of_boxes boxes g) labels) (length g.det_scores) state.count found
  account = frame_account s state t boxes out work64 work32 e

  many-inds : length g.det_scores ≡ length g.remain_inds
  many-inds = inds-many s state t boxes out work64 work32 e

  held-many : length g.predicted ≡ state.count
  unfolding update_by steps stages_from
  held-many = length-map T predict ∙ knows.many

  -- ---- the conditions that a lot stands for

  abbrev pub Condition : Lot → Type 0
  Condition Under = elem b g.remain_inds ≡ false
  Condition (Paired i) = (elem b g.remain_inds ≡ true) × (elem d (boxes_of found.matches) ≡ true) × (i ≡ track_in found.matches d)
  Condition (Refused i place) = (elem b g.remain_inds ≡ true) × (elem d (boxes_of found.matches) ≡ false) × (place ≡ place_in d unmatched) × (elem d (boxes_of found.rejected) ≡ true) × (i ≡ track_in found.rejected d)
  Condition (Alone place) = (elem b g.remain_inds ≡ true) × (elem d (boxes_of found.matches) ≡ false) × (place ≡ place_in d unmatched) × (elem d (boxes_of found.rejected) ≡ false)

  pub holds : Condition (lot_of g b)
  unfolding lot_of
  holds = by_cases (elem b g.remain_inds) refl (elem d (boxes_of found.matches)) refl (elem d (boxes_of found.rejected)) refl
    where
      by_cases : (u : Bool) → elem b g.remain_inds ≡ u → (v : Bool) → elem d (boxes_of found.matches) ≡ v → (w : Bool) → elem d (boxes_of found.rejected) ≡ w
          → Condition (cond (not u) Under (cond v (Paired (track_in found.matches d)) (cond w (Refused (track_in found.rejected d) (place_in d unmatched)) (Alone (place_in d unmatched)))))
      by_cases false r v m w q = r
      by_cases true r true m w q = (r, m, refl)
      by_cases true r false m true q = (r, m, refl, q, refl)
      by_cases true r false m false q = (r, m, refl, q)

  -- ---- the lists, by indices as given

  inds-once : (k : ℕ) → occurs k g.remain_inds ≤ 1
  unfolding update_by steps stages_from remain_inds
  inds-once k = sieve-once (remains s.det_thresh g.after_duo) (length g.after_duo) k

  of_given : (l : List ℕ) → ((i : ℕ) → i < length l → get_or l i 0 < length g.remain_inds) → occurs b (map (given_as g) l) ≡ cond (elem b g.remain_inds) (occurs d l) 0
  of_given l h = occurs-given g.remain_inds inds-once b l h

  unmatched-low : (i : ℕ) → i < length unmatched → get_or unmatched i 0 < length g.remain_inds
  unmatched-low i h = rw (← many-inds) (account.unmatched-boxes-once.below i h)

  of_matched : occurs b (matched_boxes g) ≡ cond (elem b g.remain_inds) (occurs d (boxes_of found.matches)) 0
  of_matched = of_given (boxes_of found.matches) (λ i h. rw (← many-inds) (account.boxes-once.below i h))

  of_unmatched : occurs b (unmatched_boxes g) ≡ cond (elem b g.remain_inds) (occurs d unmatched) 0
  of_unmatched = of_given unmatched unmatched-low

  first-many : length first ≡ alone
  first-many = length-take-le alone unmatched (omega arith)

  of_unpaired : occurs b (unpaired_boxes g) ≡ cond (elem b g.remain_inds) (occurs d first) 0
  of_unpaired =
      of_given first
      (λ i h.
      let inside : i < alone = omega (arith, h, first-many) in
      rw (get_or-take alone unmatched i 0 inside) (unmatched-low i (omega (arith, inside))))

  of_rejected : occurs b (rejected_boxes g) ≡ cond (elem b g.remain_inds) (occurs d (boxes_of found.rejected)) 0
  of_rejected =
      of_given (boxes_of found.rejected)
      (λ i h.
      let last = account.rejected-boxes in
      let inside : i < length (drop alone unmatched) = rw last h in
      let same : get_or (boxes_of found.rejected) i 0 ≡ get_or unmatched (alone + i) 0 = ap (λ (l : List ℕ). get_or l i 0) (sym last) ∙ get_or-drop alone unmatched i 0 in
      rw same (unmatched-low (alone + i) (omega (arith, inside, length-drop alone unmatched))))

  -- the unmatched are those in no pair, then the rejected
  split : occurs d unmatched ≡ occurs d first + occurs d (boxes_of found.rejected)
  split =
      ap (occurs d) (sym (take-append-drop alone unmatched) ∙ ap (λ (r : List ℕ). first ++ r) account.rejected-boxes)
      ∙ occurs-append d first (boxes_of found.rejected)

  retained-once : elem b g.remain_inds ≡ true → occurs d (boxes_of found.matches) + occurs d unmatched ≡ 1
  retained-once r =
      sym (occurs-append d (boxes_of found.matches) unmatched) ∙ account.boxes-whole d
      ∙ ap bit (lt-ltb d (length g.det_scores) (rw many-inds (place-in b g.remain_inds r).0))

  pub one_of : bit (not (elem b g.remain_inds)) + (occurs b (matched_boxes g) + (occurs b (rejected_boxes g) + occurs b (unpaired_boxes g))) ≡ 1
  one_of = rw (of_matched, of_rejected, of_unpaired) (by_cases (elem b g.remain_inds) refl)
    where
      by_cases : (v : Bool) → elem b g.remain_inds ≡ v
          → bit (not v) + (cond v (occurs d (boxes_of found.matches)) 0 + (cond v (occurs d (boxes_of found.rejected)) 0 + cond v (occurs d first) 0)) ≡ 1
      by_cases true r = let all = retained-once r in let parts = split in omega (arith, all, parts)
      by_cases false r = omega arith

  -- a retained box stands in a list as its place does
  elem-given : (l : List ℕ) → occurs b (map (given_as g) l) ≡ cond (elem b g.remain_inds) (occurs d l) 0 → elem b g.remain_inds ≡ true → 0 < occurs d l → elem b (map (given_as g) l) ≡ true
  elem-given l q r h = stands-in b (map (given_as g) l) (rw (q, r) h)

  pub in-matched : (i : ℕ) → Condition (Paired i) → elem b (matched_boxes g) ≡ true
  in-matched i c = elem-given (boxes_of found.matches) of_matched c.0 (in-stands d (boxes_of found.matches) c.1)

  pub in-rejected : (i place : ℕ) → Condition (Refused i place) → elem b (rejected_boxes g) ≡ true
  in-rejected i place c = elem-given (boxes_of found.rejected) of_rejected c.0 (in-stands d (boxes_of found.rejected) c.3)

  pub in_unpaired : (place : ℕ) → Condition (Alone place) → elem b (unpaired_boxes g) ≡ true
  in_unpaired place c =
      let once = unmatched-once s state t boxes out work64 work32 e b low c.0 c.1 in
      let none = out_none d (boxes_of found.rejected) c.3 in
      let parts = split in
      elem-given first of_unpaired c.0 (omega (arith, once, none, parts))

  pub left_out : elem b g.remain_inds ≡ false → LeftOut g b
  left_out r = record { not_matched = of_matched ∙ rw r; not_unmatched = of_unmatched ∙ rw r }

  -- ---- corners, labels and IoUs are the given box's

  box-at : (k : ℕ) → k < length g.remain_inds → det g.det_bboxes k ≡ xyxy_of boxes.values (given_as g k)
  unfolding update_by steps stages_from det_bboxes
  box-at k h = corners-at (xyxy_of boxes.values) g.remain_inds k 0 h

  track-at : (i : ℕ) → i < length g.predicted → det g.trks i ≡ get_state (tracker_at g.predicted i)
  unfolding update_by steps stages_from trks
  track-at i h =
      corners-at (λ (c : Xyxy). c) (map get_state g.predicted) i (get_state blank) (rw (length-map g.predicted get_state) h)
      ∙ get_or-map get_state g.predicted i blank

  label_at_lem : (k : ℕ) → k < length g.remain_inds → label_at (labels_of_boxes boxes g) k ≡ label_at boxes.labels (given_as g k)
  unfolding det_labels
  label_at_lem k h = map_at (label_at boxes.labels) g.remain_inds k 0 0 h

  module _ (r : elem b g.remain_inds ≡ true) where
    inside : d < length g.remain_inds
    inside = (place-in b g.remain_inds r).0

    its_index : given_as g d ≡ b
    its_index = (place-in b g.remain_inds r).1

    its_box : det g.det_bboxes d ≡ xyxy_of boxes.values b
    its_box = box-at d inside ∙ ap (xyxy_of boxes.values) its_index

    its_label : label_at (labels_of_boxes boxes g) d ≡ label_at boxes.labels b
    its_label = label_at_lem d inside ∙ ap (label_at boxes.labels) its_index

    module _ (i : ℕ) (held : i < length g.predicted) where
      cell-is : get_or (ious_of boxes labels g) (d * length g.predicted + i) nan ≡ (paired_with g boxes labels b i).iou
      cell-is =
          grid-at (where_alike (alike same_label (labels_of_boxes boxes g) labels) (iou_batch g.det_bboxes g.trks) plus_zero) (length g.det_scores) (length g.predicted) _ nan d i (rw many-inds inside) held
          ∙ ap (λ (k : ℕ). cond (same_label k (label_at labels i)) (overlap (box_of (det g.det_bboxes d)) (box_of (det g.trks i))).ratio plus_zero) its_label
          ∙ ap (λ (c : Xyxy). cond (same_label (label_at boxes.labels b) (label_at labels i)) (overlap (box_of c) (box_of (det g.trks i))).ratio plus_zero) its_box
          ∙ ap (λ (c : Xyxy). cond (same_label (label_at boxes.labels b) (label_at labels i)) (overlap (box_of (xyxy_of boxes.values b)) (box_of c)).ratio plus_zero) (track-at i held)

      told_of : Told boxes labels g b i (paired_with g boxes labels b i)
      told_of = record { held = held; its_id = refl; its_label = refl; its_iou = sym cell-is }

  -- ---- the tracks of the frame

  abbrev hits : List Track
  hits = corrected_by g.det_bboxes (boxes_of found.matches) (tracks_of found.matches) (map predict T)

  all_are : g.started.trackers ≡ hits ++ started_by state.last g.det_bboxes unmatched
  all_are = ap (λ (a : Started). a.trackers) (all-started s state t boxes out work64 work32 e)

  matched-so : g.matched ≡ hits
  unfolding update_by steps stages_from
  matched-so = matched-is g.det_bboxes found.matches (map predict T)

  hits_many : length hits ≡ length g.predicted
  unfolding update_by steps stages_from
  hits_many = corrected-many g.det_bboxes (boxes_of found.matches) (tracks_of found.matches) (map predict T)

  same_id : (i : ℕ) → i < state.count → (tracker_at g.started.trackers i).id ≡ (tracker_at g.predicted i).id
  same_id i h =
      let facts = frame_facts s state t boxes out work64 work32 e in
      let held = knows.many in
      let read = held-read s state t boxes out work64 work32 e b low i h in
      facts.old_ids i (omega (arith, h, held)) ∙ sym (ap (λ (k : Track). k.id) read ∙ predict_id (get_or T i blank))

  -- a correction leaves a track that was just seen
  fresh : (i : ℕ) (c : Xyxy) → i < state.count → (strack.update (tracker_at g.predicted i) c).1.since ≡ 0
  fresh i c h =
      ap (λ (k : Track). (strack.update k c).1.since) (held-read s state t boxes out work64 work32 e b low i h)
      ∙ ap (λ (u : ℕ × Track). u.1.since) (update-accepted (predict (get_or T i blank)) c (knows.each i h).correctable)
      ∙ hit_since (predict (get_or T i blank)) _

  -- the test of labels, and the IoUs for so many tracks
  abbrev liked : ℕ → ℕ → Bool
  liked = alike same_label (labels_of_boxes boxes g) labels

  abbrev cells : ℕ → List Float
  cells n = ious liked (length g.det_scores) n g.det_bboxes g.trks

  stays-young : (k : Track) → k.since ≡ 0 → young s.max_age k ≡ true
  stays-young k q = rw q (le-leb 0 s.max_age (omega arith))

  pub matched_to : (i : ℕ) → Condition (Paired i) → i < state.count → MatchedTo s boxes labels g b (held_id g i) (paired_with g boxes labels b i)
  matched_to i c h =
      let facts = frame_facts s state t boxes out work64 work32 e in
      let k : ℕ = place_in d (boxes_of found.matches) in
      let at = place-in d (boxes_of found.matches) c.1 in
      let within : k < length found.matches = omega (arith, at.0, length-map found.matches (λ (p : Pair). p.box)) in
      let box-is : (get_or found.matches k (pair 0 0)).box ≡ d = sym (get_or-map (λ (p : Pair). p.box) found.matches k (pair 0 0)) ∙ at.1 in
      let track-is : (get_or found.matches k (pair 0 0)).track ≡ i = sym (get_or-map (λ (p : Pair). p.track) found.matches k (pair 0 0)) ∙ sym c.2 in
      let low-hit : i < length hits = omega (arith, h, hits_many, held-many) in
      let held : i < length g.predicted = omega (arith, h, held-many) in
      let here : tracker_at g.started.trackers i ≡ tracker_at g.matched i =
      ap (λ (ts : List Track). tracker_at ts i) all_are ∙ get_or-append hits (started_by state.last g.det_bboxes unmatched) blank i low-hit ∙ ap (λ (ts : List Track). tracker_at ts i) (sym matched-so) in
      let done : tracker_at g.matched i ≡ (strack.update (tracker_at g.predicted i) (det g.det_bboxes d)).1 = rw (box-is, track-is) at (facts.corrected k within) in
      let became : tracker_at g.started.trackers i ≡ (strack.update (tracker_at g.predicted i) (xyxy_of boxes.values b)).1 =
      here ∙ done ∙ ap (λ (q : Xyxy). (strack.update (tracker_at g.predicted i) q).1) (its_box c.0) in
      let stood = account.stands k within in
      let like = rw (box-is, track-is) at (stands_alike liked (cells state.count) state.count s.iou_threshold (get_or found.matches k (pair 0 0)) stood) in
      let over : le s.iou_threshold (get_or (cells state.count) (d * state.count + i) nan) ≡ true =
      rw (box-is, track-is) at (stands-above liked (cells state.count) state.count s.iou_threshold (get_or found.matches k (pair 0 0)) stood) in
      let over-all = subst (λ (n : ℕ). le s.iou_threshold (get_or (cells n) (d * n + i) nan) ≡ true) (sym held-many) over in
      record {
        track = i;
        told = told_of c.0 i held;
        its_id = refl;
        its_track = became;
        same_id = same_id i h;
        stays = stays-young (tracker_at g.started.trackers i) (ap (λ (k : Track). k.since) became ∙ fresh i (xyxy_of boxes.values b) h);
        alike = rw (← its_label c.0) like;
        above = rw (← cell-is c.0 i held) over-all;
      }

  pub rejected_with : (i place : ℕ) → Condition (Refused i place) → i < state.count → RejectedWith s boxes labels g b (paired_with g boxes labels b i)
  rejected_with i place c h =
      let k : ℕ = place_in d (boxes_of found.rejected) in
      let at = place-in d (boxes_of found.rejected) c.3 in
      let within : k < length found.rejected = omega (arith, at.0, length-map found.rejected (λ (p : Pair). p.box)) in
      let box-is : (get_or found.rejected k (pair 0 0)).box ≡ d = sym (get_or-map (λ (p : Pair). p.box) found.rejected k (pair 0 0)) ∙ at.1 in
      let track-is : (get_or found.rejected k (pair 0 0)).track ≡ i = sym (get_or-map (λ (p : Pair). p.track) found.rejected k (pair 0 0)) ∙ sym c.4 in
      let held : i < length g.predicted = omega (arith, h, held-many) in
      let fell : (liked d i && le s.iou_threshold (get_or (cells state.count) (d * state.count + i) nan)) ≡ false =
      rw (box-is, track-is) at (falls-so liked (cells state.count) state.count s.iou_threshold (get_or found.rejected k (pair 0 0)) (account.falls k within)) in
      let fell-all = subst (λ (n : ℕ). (liked d i && le s.iou_threshold (get_or (cells n) (d * n + i) nan)) ≡ false) (sym held-many) fell in
      record {
        track = i;
        told = told_of c.0 i held;
        falls = rw (← cell-is c.0 i held, ← its_label c.0) fell-all;
      }

  -- ---- the tracks that are started

  pub starts : (k : ℕ) → k < length unmatched → tracker_at g.started.trackers (length g.predicted + k) ≡ strack.new (xyxy_of boxes.values (given_as g (get_or unmatched k 0))) (state.last + k + 1)
  unfolding started_by
  starts k h =
      ap (λ (ts : List Track). tracker_at ts (length g.predicted + k)) all_are
      ∙ ap (λ (n : ℕ). tracker_at (hits ++ started_by state.last g.det_bboxes unmatched) (n + k)) (sym hits_many)
      ∙ get_or-append-add hits (started_by state.last g.det_bboxes unmatched) k blank
      ∙ tab-at (start_at state.last g.det_bboxes unmatched) (length unmatched) k blank h
      ∙ ap (λ (c : Xyxy). strack.new c (state.last + k + 1)) (box-at (get_or unmatched k 0) (unmatched-low k h))

  pub started_as : (place : ℕ) → elem b g.remain_inds ≡ true → elem d (boxes_of found.matches) ≡ false → place ≡ place_in d unmatched → StartedAs s state boxes g b (state.last + place + 1)
  started_as place r m q =
      let once = unmatched-once s state t boxes out work64 work32 e b low r m in
      let at = place-in d unmatched (stands-in d unmatched (omega (arith, once))) in
      let within : place < length unmatched = rw q at.0 in
      let its_place : get_or unmatched place 0 ≡ d = rw q at.1 in
      let given : given_as g (get_or unmatched place 0) ≡ b = ap (given_as g) its_place ∙ its_index r in
      let began : tracker_at g.started.trackers (length g.predicted + place) ≡ strack.new (xyxy_of boxes.values b) (state.last + place + 1) =
      starts place within ∙ ap (λ (k : ℕ). strack.new (xyxy_of boxes.values k) (state.last + place + 1)) given in
      record {
        place = place;
        within = within;
        its_box = given;
        its_id = refl;
        its_track = began;
        stays = stays-young (tracker_at g.started.trackers (length g.predicted + place)) (ap (λ (k : Track). k.since) began ∙ new_since (xyxy_of boxes.values b) (state.last + place + 1));
      }
