-- What the lists of the pairs say of a box of an accepted frame is what the definition says. Assumes nothing.
use mathlib.Core.Path.{◌≡◌, refl, sym, ap, ◌∙◌}
use mathlib.Core.Bool.{Bool, true, false, cond, not}
use mathlib.Core.List.{List, ◌++◌}
use Prim.Native.Nat.{ℕ, ◌+◌, ◌-◌, ◌<◌, min}
use native.Mathlib.Omega.{arith}
use borrow.Author.Tests.{lt-ltb, le-ltb}
use lib.Dec.{ltb}
use lib.ListN.{length, take-append-drop, get_or, take, drop}
use lib.Seq.{length-take-le, get_or-drop}
use lib.Ieee.{Float, nan, le}
use Rattle.laws.specs.Tab.{indices, get_d_any}
use Rattle.laws.specs.Count.{bit, count_where}
use Rattle.laws.specs.Sieve.{sieve}
use Rattle.laws.specs.Elem.{elem, in-stands, stands-in, out_none, none_out}
use Rattle.laws.specs.Occurs.{occurs, occurs-append}
use Rattle.laws.specs.Picked.{elem-picked}
use Rattle.floats.specs.Single.{plus_zero}
use Rattle.assoc_matching.specs.Matching.{Pair, boxes_of, tracks_of}
use Rattle.assoc_assignment.specs.Assignment.{Assignment}
use Rattle.boost_tracker_settings.specs.declared.settings.Settings.{Settings}
use Rattle.boost_tracker_table.specs.Lent.{Table, tracks_in, labels_in}
use Rattle.std.proofs.Common.{Ok}
use Rattle.boost_tracker_verdict.specs.declared.sound.State.{State}
use Rattle.boost_tracker_verdict.specs.Boxes.{Boxes}
use Rattle.boost_tracker_verdict.specs.Verdict.{boxes_in, verdict}
use Rattle.boost_tracker_definition.specs.Update.{remains, remain_inds, Stages, stages_from, steps, update_by, update}
use Rattle.boost_tracker_definition.proofs.FactLaws.{frame_account, inds-many, scored-many}
use Rattle.boost_tracker_seen.specs.declared.seen.Seen.{Seen}
use Rattle.boost_tracker_pairs.specs.Pairs.{seen_in}
use Rattle.boost_tracker_fate.specs.declared.kinds.Lot.TheVariants.{Under, Paired, Refused, Alone}
use Rattle.boost_tracker_fate.specs.Fate.{place_in}
use Rattle.boost_tracker_fate.specs.Private.{lot_by}
use Rattle.boost_tracker_fate.proofs.PlaceLaws.{place-in, place_test, place-front, place-back, place-picked}
use Rattle.boost_tracker_why.specs.Why.{retained_as, track_in, lot_of}

-- ---- an unmatched box: the rejected are the last of both lists

module _ (unmatched left : List ℕ) (rejected : List Pair) (d : ℕ)
    (boxes-last : drop (length unmatched - length rejected) unmatched ≡ boxes_of rejected) (tracks-last : drop (length left - length rejected) left ≡ tracks_of rejected) (stands-once : occurs d unmatched ≡ 1) where
  abbrev alone : ℕ
  alone = length unmatched - length rejected

  abbrev first : List ℕ
  first = take alone unmatched

  abbrev place : ℕ
  place = place_in d unmatched

  whole : unmatched ≡ first ++ boxes_of rejected
  whole = sym (take-append-drop alone unmatched) ∙ ap (λ (r : List ℕ). first ++ r) boxes-last

  first-many : length first ≡ alone
  first-many = length-take-le alone unmatched (omega arith)

  counted : occurs d first + occurs d (boxes_of rejected) ≡ 1
  counted = sym (occurs-append d first (boxes_of rejected)) ∙ ap (occurs d) (sym whole) ∙ stands-once

  unmatched-lot : cond (ltb place alone) (Alone place) (Refused (get_or left ((length left - length rejected) + (place - alone)) 0) place)
      ≡ cond (elem d (boxes_of rejected)) (Refused (track_in rejected d) place) (Alone place)
  unmatched-lot = by_cases (elem d (boxes_of rejected)) refl
    where
      by_cases : (b : Bool) → elem d (boxes_of rejected) ≡ b → cond (ltb place alone) (Alone place) (Refused (get_or left ((length left - length rejected) + (place - alone)) 0) place) ≡ cond b (Refused (track_in rejected d) place) (Alone place)
      by_cases true e =
          let some = in-stands d (boxes_of rejected) e in
          let none : elem d first ≡ false = none_out d first (omega (arith, counted, some)) in
          let at : place ≡ length first + place_in d (boxes_of rejected) = ap (place_in d) whole ∙ place-back d first (boxes_of rejected) none in
          let behind : place - alone ≡ place_in d (boxes_of rejected) = omega (arith, at, first-many) in
          let track : get_or left ((length left - length rejected) + (place - alone)) 0 ≡ track_in rejected d =
          rw behind (sym (get_or-drop (length left - length rejected) left (place_in d (boxes_of rejected)) 0) ∙ ap (λ (l : List ℕ). get_or l (place_in d (boxes_of rejected)) 0) tracks-last) in
          rw (le-ltb place alone (omega (arith, at, first-many)), track)
      by_cases false e =
          let none = out_none d (boxes_of rejected) e in
          let some : elem d first ≡ true = stands-in d first (omega (arith, counted, none)) in
          let at : place ≡ place_in d first = ap (place_in d) whole ∙ place-front d first (boxes_of rejected) some in
          let inside = (place-in d first some).0 in
          rw (lt-ltb place alone (omega (arith, at, inside, first-many)))

-- ---- a frame

module _ (s : Settings) (state : State) (t : Table) (boxes : Boxes) (out work64 work32 : ℕ) (e : verdict s state t boxes out work64 work32 ≡ Ok tt) (b : ℕ) (low : b < boxes_in boxes.values) where
  abbrev g : Stages
  g = update s state boxes (tracks_in t state.count) (labels_in t state.count)

  abbrev thresh : Float
  thresh = s.det_thresh

  many : length g.after_duo ≡ boxes_in boxes.values
  many = scored-many s state t boxes out work64 work32 e

  inds_are : g.remain_inds ≡ sieve (remains thresh g.after_duo) (indices (length g.after_duo))
  unfolding update_by steps stages_from remain_inds
  inds_are = refl

  pub retained-is : elem b g.remain_inds ≡ le thresh (get_or g.after_duo b nan)
  retained-is = ap (elem b) inds_are ∙ elem-picked (remains thresh g.after_duo) (length g.after_duo) b (rw many low)

  seen-score : (seen_in thresh g.after_dlo g.after_duo b).twice ≡ get_or g.after_duo b nan
  seen-score = get_d_any g.after_duo b plus_zero nan (rw many low)

  seen-retained : elem b g.remain_inds ≡ le thresh (seen_in thresh g.after_dlo g.after_duo b).twice
  seen-retained = retained-is ∙ ap (le thresh) (sym seen-score)

  seen-place : elem b g.remain_inds ≡ true → (seen_in thresh g.after_dlo g.after_duo b).before ≡ retained_as g b
  seen-place r =
      let passes : remains thresh g.after_duo b ≡ true = sym retained-is ∙ r in
      let below : min b (length g.after_duo) ≡ b = omega (arith, many, low) in
      ap (count_where (remains thresh g.after_duo)) below ∙ sym (ap (place_in b) inds_are ∙ place-picked (remains thresh g.after_duo) (length g.after_duo) b (rw many low) passes)

  -- a retained box that is not matched is unmatched, once
  pub unmatched-once : elem b g.remain_inds ≡ true → elem (retained_as g b) (boxes_of g.result.matches) ≡ false → occurs (retained_as g b) g.result.unmatched_detections ≡ 1
  unmatched-once r m =
      let account = frame_account s state t boxes out work64 work32 e in
      let d : ℕ = retained_as g b in
      let inside : d < length g.det_scores = rw (inds-many s state t boxes out work64 work32 e) (place-in b g.remain_inds r).0 in
      let all = account.boxes-whole d in
      let split = occurs-append d (boxes_of g.result.matches) g.result.unmatched_detections in
      let none = out_none d (boxes_of g.result.matches) m in
      let one : bit (ltb d (length g.det_scores)) ≡ 1 = ap bit (lt-ltb d (length g.det_scores) inside) in
      omega (arith, all, split, none, one)

  -- by the lists
  abbrev found : Assignment
  found = g.result

  abbrev d : ℕ
  d = retained_as g b

  paired-lot : elem b g.remain_inds ≡ true
      → cond (ltb (place_in d (boxes_of found.matches)) (length (boxes_of found.matches))) (Paired (track_in found.matches d))
      (cond (ltb (place_in d found.unmatched_detections) (length found.unmatched_detections - length found.rejected)) (Alone (place_in d found.unmatched_detections))
      (Refused (get_or found.unmatched_tracks ((length found.unmatched_tracks - length found.rejected) + (place_in d found.unmatched_detections - (length found.unmatched_detections - length found.rejected))) 0)
      (place_in d found.unmatched_detections)))
      ≡ cond (elem d (boxes_of found.matches)) (Paired (track_in found.matches d))
      (cond (elem d (boxes_of found.rejected)) (Refused (track_in found.rejected d) (place_in d found.unmatched_detections)) (Alone (place_in d found.unmatched_detections)))
  paired-lot r = rw (place_test d (boxes_of found.matches)) (by_cases (elem d (boxes_of found.matches)) refl)
    where
      by_cases : (v : Bool) → elem d (boxes_of found.matches) ≡ v
          → cond v (Paired (track_in found.matches d))
          (cond (ltb (place_in d found.unmatched_detections) (length found.unmatched_detections - length found.rejected)) (Alone (place_in d found.unmatched_detections))
          (Refused (get_or found.unmatched_tracks ((length found.unmatched_tracks - length found.rejected) + (place_in d found.unmatched_detections - (length found.unmatched_detections - length found.rejected))) 0)
          (place_in d found.unmatched_detections)))
          ≡ cond v (Paired (track_in found.matches d))
          (cond (elem d (boxes_of found.rejected)) (Refused (track_in found.rejected d) (place_in d found.unmatched_detections)) (Alone (place_in d found.unmatched_detections)))
      by_cases true m = refl
      by_cases false m =
          let account = frame_account s state t boxes out work64 work32 e in
          unmatched-lot found.unmatched_detections found.unmatched_tracks found.rejected d account.rejected-boxes account.rejected-tracks (unmatched-once r m)

  pub lot-is : {seen : Seen} {rejected : ℕ} → seen ≡ seen_in thresh g.after_dlo g.after_duo b → rejected ≡ length found.rejected
      → lot_by (le thresh seen.twice) seen.before rejected (boxes_of found.matches) (tracks_of found.matches) found.unmatched_detections found.unmatched_tracks ≡ lot_of g b
  unfolding lot_by lot_of
  lot-is {seen} {rejected} es er = rw (es, er, ← seen-retained) (by_cases (elem b g.remain_inds) refl)
    where
      by_cases : (v : Bool) → elem b g.remain_inds ≡ v
          → lot_by v (seen_in thresh g.after_dlo g.after_duo b).before (length found.rejected) (boxes_of found.matches) (tracks_of found.matches) found.unmatched_detections found.unmatched_tracks
          ≡ cond (not v) Under (cond (elem d (boxes_of found.matches)) (Paired (track_in found.matches d))
          (cond (elem d (boxes_of found.rejected)) (Refused (track_in found.rejected d) (place_in d found.unmatched_detections)) (Alone (place_in d found.unmatched_detections))))
      by_cases true r = rw (seen-place r) (paired-lot r)
      by_cases false r = refl
