-- What is told of a box of an accepted frame, by its lot and the track of its pair in the table, is the definition's. Assumes nothing.
use mathlib.Core.Path.{◌≡◌, refl, sym, ap, ◌∙◌}
use mathlib.Core.Bool.{Bool, true, false, cond, not}
use mathlib.Core.List.{List, map}
use Prim.Native.Nat.{ℕ, ◌+◌, ◌-◌, ◌<◌}
use native.Mathlib.Omega.{arith}
use lib.ListN.{length, length-map, length-drop, get_or, drop}
use lib.Seq.{get_or-drop}
use lib.Ieee.{nan}
use Rattle.laws.specs.Tab.{get_d_any}
use Rattle.laws.specs.Elem.{elem, stands-in}
use Rattle.floats.specs.Single.{plus_zero}
use Rattle.labels.specs.Label.{label_at, same_label, alike}
use Rattle.strack.specs.Strack.{predict, get_state}
use Rattle.assoc_matching.specs.Matching.{Pair, boxes_of}
use Rattle.assoc_assignment.specs.Assignment.{Assignment}
use Rattle.boost_tracker_settings.specs.declared.settings.Settings.{Settings}
use Rattle.boost_tracker_table.specs.Table.{Track}
use Rattle.boost_tracker_table.specs.Lent.{Table, tracks_in, labels_in}
use Rattle.std.proofs.Common.{Ok}
use Rattle.boost_tracker_verdict.specs.declared.sound.State.{State}
use Rattle.boost_tracker_verdict.specs.Boxes.{Boxes}
use Rattle.boost_tracker_verdict.specs.Verdict.{boxes_in, verdict}
use Rattle.boost_tracker_verdict.specs.Ready.{Ready}
use Rattle.boost_tracker_verdict.proofs.ReadyLaws.{ready}
use Rattle.boost_tracker_definition.specs.Update.{tracker_at, xyxy_of, bboxes, scores, prob_of, Stages, stages_from, steps, update_by, update}
use Rattle.boost_tracker_definition.proofs.FactLaws.{dlo-many, scores-many, scored-many, frame_account, frame_facts}
use Rattle.boost_tracker_seen.specs.declared.seen.Seen.{Seen}
use Rattle.boost_tracker_pairs.specs.Pairs.{seen_in}
use Rattle.boost_tracker_pairs.proofs.GatherLaws.{predicted-at}
use Rattle.boost_tracker_fate.specs.declared.kinds.Lot.{Lot}
use Rattle.boost_tracker_fate.specs.declared.kinds.Lot.TheVariants.{Under, Paired, Refused, Alone}
use Rattle.boost_tracker_fate.specs.declared.kinds.Fate.TheVariants.{Matched, Started, Rejected}
use Rattle.boost_tracker_fate.specs.declared.kinds.Partner.{Partner}
use Rattle.boost_tracker_fate.specs.Fate.{place_in}
use Rattle.boost_tracker_fate.specs.Partner.{partner_with}
use Rattle.boost_tracker_fate.specs.Private.{fate_by, told_by}
use Rattle.boost_tracker_fate.proofs.PlaceLaws.{place-in}
use Rattle.boost_tracker_why.specs.Why.{retained_as, track_in, lot_of, started_id, held_id, fate_of, paired_with, partner_in, explanation}
use Rattle.boost_tracker_why.specs.Private.{read_as, met_by, partner_by, started_at}
use Rattle.boost_tracker_why.proofs.LotLaws.{unmatched-once}

-- its track is held, and its place is in the unmatched list
abbrev pub Within : ℕ → ℕ → Lot → Type 0
Within held n Under = Unit {0}
Within held n (Paired t) = t < held
Within held n (Refused t place) = (t < held) × (place < n)
Within held n (Alone place) = place < n

module _ (s : Settings) (state : State) (t : Table) (boxes : Boxes) (out work64 work32 : ℕ) (e : verdict s state t boxes out work64 work32 ≡ Ok tt) (b : ℕ) (low : b < boxes_in boxes.values) where
  abbrev T : List Track
  T = tracks_in t state.count

  abbrev labels : List ℕ
  labels = labels_in t state.count

  abbrev g : Stages
  g = update s state boxes T labels

  abbrev found : Assignment
  found = g.result

  abbrev d : ℕ
  d = retained_as g b

  knows : Ready s state t boxes out work64 work32
  knows = ready s state t boxes out work64 work32 e

  predicted-so : g.predicted ≡ map predict T
  unfolding update_by steps stages_from
  predicted-so = refl

  -- ---- bounds

  matched-low : elem d (boxes_of found.matches) ≡ true → track_in found.matches d < state.count
  matched-low m =
      let at = (place-in d (boxes_of found.matches) m).0 in
      let account = frame_account s state t boxes out work64 work32 e in
      account.tracks-once.below (place_in d (boxes_of found.matches)) (omega (arith, at, length-map found.matches (λ (p : Pair). p.box), length-map found.matches (λ (p : Pair). p.track)))

  rejected-low : elem d (boxes_of found.rejected) ≡ true → track_in found.rejected d < state.count
  rejected-low m =
      let account = frame_account s state t boxes out work64 work32 e in
      let left : List ℕ = found.unmatched_tracks in
      let from : ℕ = length left - length found.rejected in
      let j : ℕ = place_in d (boxes_of found.rejected) in
      let at = (place-in d (boxes_of found.rejected) m).0 in
      let many : length (drop from left) ≡ length found.rejected = ap length account.rejected-tracks ∙ length-map found.rejected (λ (p : Pair). p.track) in
      let same : track_in found.rejected d ≡ get_or left (from + j) 0 = ap (λ (l : List ℕ). get_or l j 0) (sym account.rejected-tracks) ∙ get_or-drop from left j 0 in
      rw same (account.unmatched-tracks-once.below (from + j) (omega (arith, at, many, length-drop from left, length-map found.rejected (λ (p : Pair). p.box))))

  unmatched-low : elem b g.remain_inds ≡ true → elem d (boxes_of found.matches) ≡ false → place_in d found.unmatched_detections < length found.unmatched_detections
  unmatched-low r m =
      let once = unmatched-once s state t boxes out work64 work32 e b low r m in
      (place-in d found.unmatched_detections (stands-in d found.unmatched_detections (omega (arith, once)))).0

  pub lot-within : Within state.count (length found.unmatched_detections) (lot_of g b)
  unfolding lot_of
  lot-within = by_cases (elem b g.remain_inds) refl (elem d (boxes_of found.matches)) refl (elem d (boxes_of found.rejected)) refl
    where
      by_cases : (u : Bool) → elem b g.remain_inds ≡ u → (v : Bool) → elem d (boxes_of found.matches) ≡ v → (w : Bool) → elem d (boxes_of found.rejected) ≡ w
          → Within state.count (length found.unmatched_detections) (cond (not u) Under (cond v (Paired (track_in found.matches d))
          (cond w (Refused (track_in found.rejected d) (place_in d found.unmatched_detections)) (Alone (place_in d found.unmatched_detections)))))
      by_cases false r v m w q = tt
      by_cases true r true m w q = matched-low m
      by_cases true r false m true q = (rejected-low q, unmatched-low r m)
      by_cases true r false m false q = unmatched-low r m

  -- ---- the track of its pair, and its id

  pub held-read : (i : ℕ) → i < state.count → tracker_at g.predicted i ≡ read_as t.floats t.counters state.count i
  held-read i h =
      let space = knows.space in
      ap (λ (ts : List Track). tracker_at ts i) predicted-so ∙ sym (predicted-at t.floats t.counters state.count (omega (arith, space)) i h)

  pub started_id_lem : (place : ℕ) → place < length found.unmatched_detections → started_id g place ≡ state.last + place + 1
  started_id_lem place h =
      let facts = frame_facts s state t boxes out work64 work32 e in
      let many : length g.predicted ≡ length T = ap length predicted-so ∙ length-map T predict in
      ap (λ (k : ℕ). (tracker_at g.started.trackers (k + place)).id) many ∙ facts.new-ids place h

  abbrev partner : Lot → Partner
  partner l = partner_by t.floats t.counters labels state.count boxes.values boxes.labels b l

  met : (i : ℕ) → i < state.count → paired_with g boxes labels b i ≡ met_by t.floats t.counters labels state.count boxes.values boxes.labels b i
  unfolding met_by
  met i h =
      ap (λ (k : Track). partner_with (same_label (label_at boxes.labels b) (label_at labels i)) (xyxy_of boxes.values b) (get_state k) k.id) (held-read i h)

  partner-is : (l : Lot) → Within state.count (length found.unmatched_detections) l → partner_in g boxes labels b l ≡ partner l
  unfolding partner_by
  partner-is Under w = refl
  partner-is (Paired i) w = met i w
  partner-is (Refused i place) w = met i w.0
  partner-is (Alone place) w = refl

  met_id : (i : ℕ) → i < state.count → held_id g i ≡ (met_by t.floats t.counters labels state.count boxes.values boxes.labels b i).id
  unfolding met_by
  met_id i h = ap (λ (k : Track). k.id) (held-read i h)

  fate_is : (l : Lot) → Within state.count (length found.unmatched_detections) l → fate_of g l ≡ fate_by (partner l).id (started_at state.last l) l
  unfolding partner_by
  fate_is Under w = refl
  fate_is (Paired i) w = ap Matched (met_id i w)
  fate_is (Refused i place) w = ap Rejected (started_id_lem place w.1)
  fate_is (Alone place) w = ap Started (started_id_lem place w)

  -- ---- all of it

  once-many : length g.after_dlo ≡ boxes_in boxes.values
  unfolding update_by steps stages_from
  once-many = dlo-many (alike same_label boxes.labels labels) s (bboxes boxes.values) g.trks g.confs (map predict T) (scores boxes.values) ∙ scores-many boxes.values

  pub told_is : {seen : Seen} → seen ≡ seen_in s.det_thresh g.after_dlo g.after_duo b
      → told_by (lot_of g b) (partner (lot_of g b)) (started_at state.last (lot_of g b)) (prob_of boxes.values b) seen.once seen.twice ≡ explanation g boxes labels b
  unfolding explanation
  told_is {seen} q =
      let one : seen.once ≡ get_or g.after_dlo b nan = ap (λ (k : Seen). k.once) q ∙ get_d_any g.after_dlo b plus_zero nan (rw once-many low) in
      let two : seen.twice ≡ get_or g.after_duo b nan = ap (λ (k : Seen). k.twice) q ∙ get_d_any g.after_duo b plus_zero nan (rw (scored-many s state t boxes out work64 work32 e) low) in
      rw (one, two, fate_is (lot_of g b) lot-within, partner-is (lot_of g b) lot-within)
