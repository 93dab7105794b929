-- Steps 1 to 5, the table predicted, and steps 6 and 7 are the definition, and how a call goes on from what `prepare` left. Assumes nothing.
use mathlib.Core.Path.{◌≡◌, refl, sym, ap, ◌∙◌}
use mathlib.Core.Bool.{true}
use mathlib.Core.List.{List, map}
use Prim.Native.Nat.{ℕ, ◌+◌, ◌*◌, ◌≤◌, ◌<◌}
use native.Mathlib.Omega.{arith}
use lib.ListN.{length, length-map, get_or, take}
use lib.Ieee.{Float}
use Rattle.laws.specs.Over.{over}
use Rattle.strack.specs.Strack.{predict}
use Rattle.refusals.specs.declared.refusal.Refusal.{Refusal as StageRefusal}
use Rattle.assoc_assignment.specs.declared.assignment.AssignmentCounts.{AssignmentCounts}
use Rattle.std.specs.Bool.{⊤}
use Rattle.std.proofs.Common.{Result, Ok, Err}
use Rattle.assoc_matching.specs.Matching.{boxes_of}
use Rattle.assoc_assignment.specs.Answers as Answers
use Rattle.assoc.specs.Answers.{Lent}
use Rattle.boost_tracker_verdict.specs.declared.refusal.Refusal.{Refusal}
use Rattle.boost_tracker_settings.specs.declared.settings.Settings.{Settings}
use Rattle.boost_tracker_verdict.specs.declared.sound.State.{State}
use Rattle.boost_tracker_table.specs.Table.{Track, places_in, tracks, Laying}
use Rattle.boost_tracker_table.specs.Lent.{Table, table_with, laid_over, Call, call_with}
use Rattle.boost_tracker_table.proofs.Laws.{low-room, lay_lengths, lay_tracks, lay_lay}
use Rattle.boost_tracker_verdict.specs.Boxes.{Boxes}
use Rattle.boost_tracker_verdict.specs.Verdict.{verdict}
use Rattle.boost_tracker_verdict.specs.Ready.{Ready}
use Rattle.boost_tracker_verdict.proofs.ReadyLaws.{ready}
use Rattle.boost_tracker_definition.specs.Update.{Started, Stages, update, labels_started}
use Rattle.boost_tracker_definition.specs.Plain.{started_labels}
use Rattle.boost_tracker_definition.proofs.FactLaws.{frame_account, frame_facts, all-started, inds-many, retained-few}
use Rattle.boost_tracker_follow.specs.Corrections.{Listed, tracks_after, labels_after, followed}
use Rattle.boost_tracker_follow.proofs.FitLaws.{FollowRoom}
use Rattle.boost_tracker_follow.proofs.FollowLaws.{followed-is}
use Rattle.boost_tracker_pairs.specs.declared.pairing.Prepared.{Prepared}
use Rattle.boost_tracker_pairs.specs.Pairs.{Inputs, roomy_for, PreparedAs, verdict_in, PrepareCall, pairs_call}
use Rattle.boost_tracker_pairs.proofs.EndLaws as Ends
use Rattle.boost_tracker_pairs.proofs.EndLaws.{verdict-is, no_pairs, room_for_pairs, Found}
use Rattle.boost_tracker_steps.specs.declared.all_steps.Advanced.{Advanced}
use Rattle.boost_tracker_steps.specs.AllSteps.{lent_with, advanced}
use Rattle.boost_tracker_steps.specs.Private.{answered, predicted_floats, predicted_counters, settled, Concluded}

-- ---- steps 6 and 7

module _ (state : State) (corners : List Float) (labels pair_boxes pair_tracks unmatched : List ℕ) (f : List Float) (c n : List ℕ) {q : Result AssignmentCounts StageRefusal} {a : Result Advanced Refusal} where
  pub unsettled : {why : StageRefusal} → q ≡ Err why → a ≡ answered q → call_with a (table_with f c n) ≡ settled state corners labels pair_boxes pair_tracks unmatched (table_with f c n) q
  unsettled e h = rw (h, e)

  pub settled_is : {counts : AssignmentCounts} {f₁ : List Float} {c₁ : List ℕ} {x : Result AssignmentCounts StageRefusal} {t : Table} → q ≡ Ok counts → Laying f c f₁ c₁ (map predict (tracks f c state.count))
      → call_with x t ≡ followed state.count state.last corners labels counts pair_boxes pair_tracks unmatched (table_with f₁ c₁ n) → a ≡ answered x
      → call_with a t ≡ settled state corners labels pair_boxes pair_tracks unmatched (table_with f c n) q
  settled_is e lays v h = rw (e, h) (ap (λ (k : Call (Result AssignmentCounts StageRefusal) Table). call_with (answered k.answer) k.lent) (rw (lays.floats, lays.counters) at v))

-- ---- steps 1 to 7

module _ (s : Settings) (state : State) (f : List Float) (c n : List ℕ) (boxes : Boxes) (room : ℕ) (work64 work32 : List Float) {l₀ : Inputs} {q : Result Prepared Refusal} {l : Inputs} {work : List Float}
    (roomy₀ : roomy_for l₀ ≡ true) (w : PrepareCall s state boxes (table_with f c n) room (length work64) 0 l₀ work32 q l work) where
  abbrev table : Table
  table = table_with f c n

  -- a refused call changes nothing
  pub advance_refused : {why : Refusal} → q ≡ Err why → call_with (Err why) (lent_with f c n work64 work) ≡ advanced s state boxes room (lent_with f c n work64 work32)
  unfolding advanced
  advance_refused {why} h = rw (sym (verdict-is roomy₀ w) ∙ ap verdict_in h, (w.refused h).1)

  module _ {p : Prepared} (h : q ≡ Ok p) where
    pub accepts : verdict s state table boxes room (length work64) (length work32) ≡ Ok tt
    accepts = sym (verdict-is roomy₀ w) ∙ ap verdict_in h

    knows : Ready s state table boxes room (length work64) (length work32)
    knows = ready s state table boxes room (length work64) (length work32) accepts

    abbrev T : List Track
    T = tracks f c state.count

    abbrev L : List ℕ
    L = take state.count n

    abbrev g : Stages
    g = update s state boxes T L

    pub prepared : PreparedAs s boxes g state.count 0 p l work
    prepared = w.prepared h

    -- no more boxes are retained than the lists have room for
    pub kept_few : p.kept ≤ 255
    kept_few = Ends.kept_few s state table boxes room (length work64) (length work32) accepts prepared

    -- step 5 of what was prepared
    module _ (fit : roomy_for l ≡ true) (same : length work ≡ length work32) (r : Result AssignmentCounts StageRefusal) {l' : Lent}
        (call : Answers.call_with r l' ≡ pairs_call s p.kept state.count l n (record { lists = no_pairs; work64 = work64; work32 = work })) where
      pub always-paired : {why : StageRefusal} → r ≡ Err why → ⊥
      always-paired e = Ends.never_refused s state table boxes room (length work64) (length work32) accepts prepared no_pairs work64 fit refl same room_for_pairs r call e

      pub pairs-found : {counts : AssignmentCounts} → r ≡ Ok counts → Found g work64 work32 counts l'
      pairs-found e = Ends.found-is s state table boxes room (length work64) (length work32) accepts prepared no_pairs work64 fit refl same room_for_pairs r call work32 refl e

    -- with the pairs found
    module _ {counts : AssignmentCounts} {l' : Lent} (found : Found g work64 work32 counts l') where
      -- every index is of a box
      corner_room : (b : ℕ) → b < length g.det_scores → b * 4 + 4 ≤ length g.det_bboxes
      corner_room b low =
          omega (arith, low, inds-many s state table boxes room (length work64) (length work32) accepts, Ends.boxes_cornered s state table boxes room (length work64) (length work32) accepts)

      pairs-listed : Listed (take counts.pairs l'.lists.pair_boxes) (length (take (p.kept * 4) l.corners))
      pairs-listed k b =
          let account = frame_account s state table boxes room (length work64) (length work32) accepts in
          let front = found.boxes_are in
          rw (front, prepared.corners_are) (corner_room (get_or (boxes_of g.result.matches) k 0) (account.boxes-once.below k (rw front at b)))

      unmatched-listed : Listed (take counts.detections l'.lists.unmatched_detections) (length (take (p.kept * 4) l.corners))
      unmatched-listed k b =
          let account = frame_account s state table boxes room (length work64) (length work32) accepts in
          let front = found.unmatched_are in
          rw (front, prepared.corners_are) (corner_room (get_or g.result.unmatched_detections k 0) (account.unmatched-boxes-once.below k (rw front at b)))

      -- after the table is predicted
      module _ {f₁ : List Float} {c₁ : List ℕ} (predicted : Laying f c f₁ c₁ (map predict T)) (same-floats : length f₁ ≡ length f) (same-counters : length c₁ ≡ length c)
          (pair-boxes : length l'.lists.pair_boxes ≡ 255) (pair-tracks : length l'.lists.pair_tracks ≡ 255) (unmatched : length l'.lists.unmatched_detections ≡ 255) where
        predicted-many : length (map predict T) ≡ state.count
        predicted-many = length-map T predict ∙ knows.many

        predicted_are : tracks f₁ c₁ state.count ≡ map predict T
        predicted_are = let space = knows.space in lay_tracks predicted predicted-many (omega arith)

        follow-room : FollowRoom state.count (places_in (length f₁) (length c₁) (length n)) state.last counts (length l'.lists.pair_boxes) (length l'.lists.pair_tracks) (length l'.lists.unmatched_detections)
        follow-room =
            let account = frame_account s state table boxes room (length work64) (length work32) accepts in
            let counted = found.counts_are in
            let many : counts.pairs + counts.detections ≡ length g.det_scores = rw counted account.boxes-many in
            let few = retained-few s state table boxes room (length work64) (length work32) accepts in
            let low = knows.boxes-low in
            let space = knows.space in
            let ids = knows.ids-low in
            let frames = knows.frames-low in
            rw (same-floats, same-counters, pair-boxes, pair-tracks, unmatched)
            (record {
              room = omega (arith, many, few, space);
              ids_fit = omega (arith, ids, frames);
              pairs-in-boxes = omega (arith, many, few, low);
              pairs-in-tracks = omega (arith, many, few, low);
              started-in = omega (arith, many, few, low);
            })

        abbrev corners : List Float
        corners = take (p.kept * 4) l.corners

        abbrev kept : List ℕ
        kept = take p.kept l.labels

        abbrev followed_call : Call (Result AssignmentCounts StageRefusal) Table
        followed_call = followed state.count state.last corners kept counts l'.lists.pair_boxes l'.lists.pair_tracks l'.lists.unmatched_detections (table_with f₁ c₁ n)

        all_are : tracks_after state.count state.last corners (take counts.pairs l'.lists.pair_boxes) (take counts.pairs l'.lists.pair_tracks) (take counts.detections l'.lists.unmatched_detections) (table_with f₁ c₁ n)
            ≡ g.started.trackers
        all_are =
            rw (
              predicted_are,
              prepared.corners_are,
              found.boxes_are,
              found.tracks_are,
              found.unmatched_are,
            )
            (sym (ap (λ (a : Started). a.trackers) (all-started s state table boxes room (length work64) (length work32) accepts)))

        labels_are : labels_after state.count kept (take counts.detections l'.lists.unmatched_detections) (table_with f₁ c₁ n) ≡ labels_started boxes.labels L g
        unfolding labels_started started_labels
        labels_are = rw (prepared.labels_are, found.unmatched_are)

        follows : followed_call ≡ call_with (Ok counts) (laid_over g.started.trackers (labels_started boxes.labels L g) (table_with f₁ c₁ n))
        follows =
            followed-is state.count state.last corners kept counts l'.lists.pair_boxes l'.lists.pair_tracks l'.lists.unmatched_detections f₁ c₁ n follow-room pairs-listed unmatched-listed
            ∙ rw (all_are, labels_are)

        advance_done : {a : Result Advanced Refusal} {f₂ : List Float} {c₂ n₂ : List ℕ} → call_with a (table_with f₂ c₂ n₂) ≡ call_with (answered followed_call.answer) followed_call.lent
            → call_with a (lent_with f₂ c₂ n₂ l'.work64 l'.work32) ≡ advanced s state boxes room (lent_with f c n work64 work32)
        unfolding advanced
        advance_done {a} {f₂} {c₂} {n₂} v =
            let e : call_with a (table_with f₂ c₂ n₂) ≡ call_with (answered (Ok counts)) (laid_over g.started.trackers (labels_started boxes.labels L g) (table_with f₁ c₁ n)) =
            v ∙ ap (λ (k : Call (Result AssignmentCounts StageRefusal) Table). call_with (answered k.answer) k.lent) follows in
            let said : a ≡ answered (Ok counts) = ap (λ (k : Call (Result Advanced Refusal) Table). k.answer) e in
            let facts = frame_facts s state table boxes room (length work64) (length work32) accepts in
            let many : length g.started.trackers ≡ state.count + length g.result.unmatched_detections = facts.many ∙ rw knows.many in
            let longer : length (map predict T) ≤ length g.started.trackers = rw (predicted-many, many) (omega arith) in
            let left : Laying f₁ c₁ f₂ c₂ g.started.trackers =
            record { floats = ap (λ (k : Call (Result Advanced Refusal) Table). k.lent.floats) e; counters = ap (λ (k : Call (Result Advanced Refusal) Table). k.lent.counters) e } in
            let all : Laying f c f₂ c₂ g.started.trackers = lay_lay predicted left longer in
            let named : n₂ ≡ over (labels_started boxes.labels L g) n = ap (λ (k : Call (Result Advanced Refusal) Table). k.lent.labels) e in
            rw (
              accepts,
              said,
              found.counts_are,
              all.floats,
              all.counters,
              named,
              found.zeros64,
              found.zeros32,
            )

    -- the table predicted
    predicted : Laying f c (predicted_floats table state.count) (predicted_counters table state.count) (map predict T)
    predicted = record { floats = refl; counters = refl }

    same_lengths : (length (predicted_floats table state.count) ≡ length f) × (length (predicted_counters table state.count) ≡ length c)
    same_lengths = let space = knows.space in lay_lengths predicted (low-room (rw (length-map T predict, knows.many) (omega (arith, space))))

    -- steps 5 to 7 of what was prepared
    module _ (fit : roomy_for l ≡ true) (same : length work ≡ length work32) {l' : Lent} (pair-boxes : length l'.lists.pair_boxes ≡ 255) (pair-tracks : length l'.lists.pair_tracks ≡ 255)
        (unmatched : length l'.lists.unmatched_detections ≡ 255) where
      pub concluded_is : (r : Result AssignmentCounts StageRefusal) {a : Result Advanced Refusal} {f₂ : List Float} {c₂ n₂ : List ℕ}
          → Answers.call_with r l' ≡ pairs_call s p.kept state.count l n (record { lists = no_pairs; work64 = work64; work32 = work })
          → call_with a (table_with f₂ c₂ n₂) ≡ settled state (take (p.kept * 4) l.corners) (take p.kept l.labels) l'.lists.pair_boxes l'.lists.pair_tracks l'.lists.unmatched_detections table r
          → call_with a (lent_with f₂ c₂ n₂ l'.work64 l'.work32) ≡ advanced s state boxes room (lent_with f c n work64 work32)
      concluded_is (Ok counts) call v =
          advance_done (pairs-found fit same (Ok counts) call refl) predicted same_lengths.0 same_lengths.1 pair-boxes pair-tracks unmatched v
      concluded_is (Err why) call v = absurd (always-paired fit same (Err why) call refl)

-- ---- how a call goes on from what `prepare` left

module _ (s : Settings) (state : State) (p : Prepared) (l : Inputs) (f : List Float) (c n : List ℕ) (work64 work : List Float) {a : Result Advanced Refusal} where
  pub ends-settled : {l' : Lent} {f₂ : List Float} {c₂ n₂ : List ℕ} (r : Result AssignmentCounts StageRefusal) → roomy_for l ≡ true
      → length l'.lists.pair_boxes ≡ 255 → length l'.lists.pair_tracks ≡ 255 → length l'.lists.unmatched_detections ≡ 255
      → Answers.call_with r l' ≡ pairs_call s p.kept state.count l n (record { lists = no_pairs; work64 = work64; work32 = work })
      → call_with a (table_with f₂ c₂ n₂) ≡ settled state (take (p.kept * 4) l.corners) (take p.kept l.labels) l'.lists.pair_boxes l'.lists.pair_tracks l'.lists.unmatched_detections (table_with f c n) r
      → Concluded s state p l (lent_with f c n work64 work) a (lent_with f₂ c₂ n₂ l'.work64 l'.work32)
  ends-settled {l'} r fit pair-boxes pair-tracks unmatched call v =
      record { ends = λ boxes room l₀ work32 roomy₀ same w. concluded_is s state f c n boxes room work64 work32 roomy₀ w refl fit same {l' = l'} pair-boxes pair-tracks unmatched r call v }
