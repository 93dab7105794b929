-- What the pairs say of a box is what the frame does with it, and the ends of a call of `why`. Assumes nothing.
use mathlib.Core.Path.{◌≡◌, refl, sym, ap, ◌∙◌}
use mathlib.Core.Bool.{Bool, true}
use mathlib.Core.List.{List}
use Prim.Native.Nat.{ℕ, ◌+◌, ◌≤◌, ◌<◌}
use native.Mathlib.Omega.{arith}
use Rattle.std.specs.Bool.{⊤}
use Rattle.std.specs.Prelude.{IsOk}
use Rattle.std.proofs.Common.{Result, Ok, Err, rules}
use borrow.Author.Tests.{lt-ltb, le-ltb}
use Rattle.refusals.specs.declared.refusal.Refusal.{Refusal as StageRefusal}
use Rattle.boost_tracker_why.specs.declared.refusal.WhyRefusal.TheVariants.{Frame, NoBox}
use lib.ListN.{length, get_or}
use lib.Ieee.{Float}
use Rattle.labels.specs.Label.{label_at, same_label}
use Rattle.strack.specs.declared.rect.Xyxy.{Xyxy}
use Rattle.strack.specs.Strack.{predict, get_state}
use Rattle.assoc_assignment.specs.declared.assignment.AssignmentCounts.{AssignmentCounts}
use Rattle.assoc_assignment.specs.Answers as Assignments
use Rattle.assoc_assignment.specs.Answers.{Lists}
use Rattle.assoc.specs.Answers.{Lent}
use Rattle.boost_tracker_settings.specs.declared.settings.Settings.{Settings}
use Rattle.boost_tracker_table.specs.Table.{Track, blank, tracks}
use Rattle.boost_tracker_table.specs.Lent.{Table, tracks_in, labels_in, Call, call_with}
use Rattle.boost_tracker_verdict.specs.declared.refusal.Refusal.{Refusal}
use Rattle.boost_tracker_verdict.specs.declared.sound.State.{State}
use Rattle.boost_tracker_verdict.specs.Boxes.{Boxes}
use Rattle.boost_tracker_verdict.specs.Verdict.{boxes_in, verdict}
use Rattle.boost_tracker_verdict.specs.Ready.{Ready}
use Rattle.boost_tracker_verdict.proofs.ReadyLaws.{ready}
use Rattle.boost_tracker_definition.specs.Update.{xyxy_of, prob_of, Stages, update}
use Rattle.boost_tracker_definition.proofs.FactLaws.{retained-few, frame_account}
use Rattle.boost_tracker_seen.specs.declared.seen.Seen.{Seen}
use Rattle.boost_tracker_pairs.specs.declared.pairing.Prepared.{Prepared}
use Rattle.boost_tracker_pairs.specs.Pairs.{Inputs, roomy_for, verdict_in, PrepareCall, pairs_call}
use Rattle.boost_tracker_pairs.proofs.EndLaws as Ends
use Rattle.boost_tracker_pairs.proofs.EndLaws.{verdict-is, no_pairs, room_for_pairs, Found}
use Rattle.boost_tracker_fate.specs.declared.kinds.Lot.{Lot}
use Rattle.boost_tracker_fate.specs.declared.kinds.Partner.{Partner}
use Rattle.boost_tracker_fate.specs.declared.kinds.Explanation.{Explanation}
use Rattle.boost_tracker_fate.specs.Partner.{partner_with}
use Rattle.boost_tracker_fate.specs.Private.{told_by}
use Rattle.boost_tracker_why.specs.Why.{lot_of, explanation}
use Rattle.boost_tracker_why.specs.Answers.{Work, work_with, why_call}
use Rattle.boost_tracker_why.specs.Private.{met_by, partner_by, started_at, Answerable, lot_in, answered_by, Asked, explained_call}
use Rattle.boost_tracker_why.proofs.LotLaws.{lot-is}
use Rattle.boost_tracker_why.proofs.ToldLaws.{told_is}

-- ---- the code's cases

-- the track of its pair, read and predicted
pub met_is : (f : List Float) (c labels : List ℕ) (held : ℕ) (values : List Float) (box_labels : List ℕ) (b i : ℕ) {read track : Track} {u v : ℕ} {same : Bool} {det trk : Xyxy} {p : Partner}
    → read ≡ get_or (tracks f c held) i blank → track ≡ predict read → u ≡ label_at box_labels b → v ≡ label_at labels i → same ≡ same_label u v → det ≡ xyxy_of values b → trk ≡ get_state track
    → p ≡ partner_with same det trk track.id → p ≡ met_by f c labels held values box_labels b i
unfolding met_by
met_is f c labels held values box_labels b i er et eu ev es ed ek ep = rw (ep, es, eu, ev, ed, ek, et, er)

pub answered-is : (s : Settings) (state : State) (seen : Seen) (t : Table) (boxes : Boxes) (b : ℕ) (l : Lists) (counts : AssignmentCounts) {k : Lot} {m : Partner} {id : ℕ} {x : Explanation} → k ≡ lot_in s seen l counts
    → m ≡ partner_by t.floats t.counters (labels_in t state.count) state.count boxes.values boxes.labels b k
    → id ≡ started_at state.last k → x ≡ told_by k m id (prob_of boxes.values b) seen.once seen.twice → x ≡ answered_by s state seen t boxes b l counts
answered-is s state seen t boxes b l counts ek em ei ex = rw (ex, ei, em, ek)

-- ---- step 5 of an accepted frame

module _ (s : Settings) (state : State) (boxes : Boxes) (t : Table) (b : ℕ) {p : Prepared} {i : Inputs} {work64 work32 : List Float} (asked : Asked s state boxes t b p i (work_with work64 work32)) where
  abbrev labels : List ℕ
  labels = labels_in t state.count

  abbrev g : Stages
  g = update s state boxes (tracks_in t state.count) labels

  abbrev Paired : Result AssignmentCounts StageRefusal → Lent → Type 0
  Paired r l = Assignments.call_with r l ≡ pairs_call s p.kept state.count i t.labels (record { lists = no_pairs; work64 = work64; work32 = work32 })

  knows : Ready s state t boxes asked.room (length work64) (length work32)
  knows = ready s state t boxes asked.room (length work64) (length work32) asked.accepts

  always-paired : (r : Result AssignmentCounts StageRefusal) {l : Lent} {why : StageRefusal} → Paired r l → r ≡ Err why → ⊥
  always-paired r call e =
      Ends.never_refused s state t boxes asked.room (length work64) (length work32) asked.accepts asked.prepared no_pairs work64 asked.roomy refl refl room_for_pairs r call e

  pairs-found : (r : Result AssignmentCounts StageRefusal) {l : Lent} {counts : AssignmentCounts} → Paired r l → r ≡ Ok counts → Found g work64 work32 counts l
  pairs-found r call e =
      Ends.found-is s state t boxes asked.room (length work64) (length work32) asked.accepts asked.prepared no_pairs work64 asked.roomy refl refl room_for_pairs r call work32 refl e

  -- the lists are no longer than the local ones
  counts-few : {l : Lent} {counts : AssignmentCounts} → Found g work64 work32 counts l → (counts.pairs ≤ 255) × (counts.detections ≤ 255) × (counts.tracks ≤ 255)
  counts-few {l} {counts} found =
      let counted = found.counts_are in
      let account = frame_account s state t boxes asked.room (length work64) (length work32) asked.accepts in
      let few = retained-few s state t boxes asked.room (length work64) (length work32) asked.accepts in
      let most = knows.boxes-low in
      let space = knows.space in
      let of_boxes_lem : counts.pairs + counts.detections ≡ length g.det_scores = rw counted account.boxes-many in
      let of_tracks : counts.pairs + counts.tracks ≡ state.count = rw counted account.tracks-many in
      (omega (arith, of_boxes_lem, few, most), omega (arith, of_boxes_lem, few, most), omega (arith, of_tracks, space))

  -- the pairs are found
  pub paired-ok : (r : Result AssignmentCounts StageRefusal) {l : Lent} → Paired r l → IsOk r
  paired-ok (Ok counts) call = search rules
  paired-ok (Err why) call = absurd (always-paired (Err why) call refl)

  pub answerable : (r : Result AssignmentCounts StageRefusal) {l : Lent} {counts : AssignmentCounts} → Paired r l → r ≡ Ok counts → length l.lists.pair_boxes ≡ 255 → length l.lists.pair_tracks ≡ 255
      → length l.lists.unmatched_detections ≡ 255 → length l.lists.unmatched_tracks ≡ 255 → Answerable state t boxes b l.lists counts
  answerable r call e eb et eu el =
      let space = knows.space in
      let ids = knows.ids-low in
      let frames = knows.frames-low in
      record {
        few = counts-few (pairs-found r call e);
        pair-boxes_fit = eb;
        pair-tracks_fit = et;
        unmatched_fit = eu;
        left_fit = el;
        boxes-low = knows.boxes-low;
        given = asked.given;
        labelled = omega (arith, space);
        ids-low = omega (arith, ids, frames);
      }

  lot-here : {l : Lent} {counts : AssignmentCounts} → Found g work64 work32 counts l → lot_in s p.seen l.lists counts ≡ lot_of g b
  lot-here found =
      rw (found.boxes_are, found.tracks_are, found.unmatched_are, found.left_are)
      (lot-is s state t boxes asked.room (length work64) (length work32) asked.accepts b asked.given asked.prepared.seen-is (ap (λ (q : AssignmentCounts). q.rejected) found.counts_are))

  -- the box is explained
  pub concluded_is : (r : Result AssignmentCounts StageRefusal) {l : Lent} {counts : AssignmentCounts} {x : Explanation} → Paired r l → r ≡ Ok counts → x ≡ answered_by s state p.seen t boxes b l.lists counts
      → call_with x (work_with l.work64 l.work32) ≡ explained_call s state boxes t b (work_with work64 work32)
  concluded_is r {l} {counts} {x} call e v =
      let found = pairs-found r call e in
      let lot : Lot = lot_in s p.seen l.lists counts in
      let told : told_by lot (partner_by t.floats t.counters labels state.count boxes.values boxes.labels b lot) (started_at state.last lot) (prob_of boxes.values b) p.seen.once p.seen.twice
      ≡ explanation g boxes labels b =
      rw (lot-here found) (told_is s state t boxes asked.room (length work64) (length work32) asked.accepts b asked.given asked.prepared.seen-is) in
      let said : x ≡ explanation g boxes labels b = v ∙ told in
      rw (said, found.zeros64, found.zeros32)

-- ---- a call

module _ (s : Settings) (state : State) (boxes : Boxes) (t : Table) (room b : ℕ) (work64 work32 : List Float) where
  abbrev said : Result ⊤ Refusal
  said = verdict s state t boxes room (length work64) (length work32)

  abbrev l : Work
  l = work_with work64 work32

  -- the frame is refused, or there is no such box
  pub why_turned_down : {why : Refusal} → said ≡ Err why → call_with (Err (Frame why)) l ≡ why_call s state boxes t room b l
  unfolding why_call
  why_turned_down h = rw h

  pub why_beyond : boxes_in boxes.values ≤ b → said ≡ Ok tt → call_with (Err NoBox) l ≡ why_call s state boxes t room b l
  unfolding why_call
  why_beyond h e = rw (e, le-ltb b (boxes_in boxes.values) h)

  module _ {i₀ i : Inputs} {q : Result Prepared Refusal} {work : List Float} (roomy₀ : roomy_for i₀ ≡ true) (w : PrepareCall s state boxes t room (length work64) b i₀ work32 q i work) where
    pub why_refused : {why : Refusal} → q ≡ Err why → call_with (Err (Frame why)) (work_with work64 work) ≡ why_call s state boxes t room b l
    why_refused {why} h = rw (w.refused h).1 (why_turned_down (sym (verdict-is roomy₀ w) ∙ ap verdict_in h))

    module _ {p : Prepared} (h : q ≡ Ok p) (given : b < boxes_in boxes.values) (same : length work ≡ length work32) where
      accepts : said ≡ Ok tt
      accepts = sym (verdict-is roomy₀ w) ∙ ap verdict_in h

      -- the lists are as long as they were
      pub asked_is : length i.corners ≡ length i₀.corners → length i.labels ≡ length i₀.labels → length i.scores ≡ length i₀.scores → length i.trks ≡ length i₀.trks
          → length i.confs ≡ length i₀.confs → Asked s state boxes t b p i (work_with work64 work)
      asked_is ec el es et ef = record {
        room = room;
        accepts = ap (verdict s state t boxes room (length work64)) same ∙ accepts;
        given = given;
        roomy = rw (ec, el, es, et, ef) roomy₀;
        prepared = w.prepared h;
      }

      pub why_done : {x : Explanation} {l' : Work} → call_with x l' ≡ explained_call s state boxes t b (work_with work64 work) → call_with (Ok x) l' ≡ why_call s state boxes t room b l
      unfolding why_call
      why_done call = ap (λ (k : Call Explanation Work). call_with (Ok k.answer) k.lent) call ∙ rw (accepts, lt-ltb b (boxes_in boxes.values) given, same)
