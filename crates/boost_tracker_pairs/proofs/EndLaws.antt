-- Step 5 of what `prepare` left is accepted, and its pairs are the definition's: said once, for both callers of `prepare` and `pairs`. Assumes nothing.
use mathlib.Core.Path.{◌≡◌, refl, sym, ap, ◌∙◌}
use mathlib.Core.Bool.{Bool, true, false, ◌&&◌}
use mathlib.Core.List.{List}
use Prim.Native.Nat.{ℕ, ◌*◌, ◌≤◌, max, min}
use native.Mathlib.Nat.{le_refl, le_trans, min-le_left, mul-le-mul}
use native.Mathlib.Omega.{arith}
use borrow.Author.Tests.{le-ltb, eq-eqb, le-leb, leb-true}
use lib.Dec.{leb}
use lib.ListN.{length, length-map, take, replicate}
use lib.Ieee.{Float, binary32, of_bits}
use Rattle.laws.specs.Tab.{tab}
use Rattle.laws.specs.Tests.{and_left, and_right}
use Rattle.laws.specs.Over.{over-front}
use Rattle.labels.specs.Label.{same_label}
use Rattle.floats.specs.Single.{plus_zero}
use Rattle.strack.specs.Strack.{predict}
use Rattle.refusals.specs.declared.refusal.Refusal.{Refusal}
use Rattle.refusals.specs.declared.refusal.Refusal.TheVariants.{TooShort}
use Rattle.std.specs.Bool.{⊤}
use Rattle.std.proofs.Common.{Result, Ok, Err}
use Rattle.refusals.proofs.Laws.{number-some}
use Rattle.boost_tracker_verdict.specs.declared.refusal.Refusal.{Refusal as FrameRefusal}
use Rattle.assoc_cost.specs.declared.cost.AssociateParams.{AssociateParams}
use Rattle.assoc_matching.specs.Matching.{Pair, boxes_of, tracks_of}
use Rattle.assoc_matching.specs.Answers as Matching
use Rattle.assoc_matching.specs.Answers.{zeroed}
use Rattle.assoc_assignment.specs.declared.assignment.AssignmentCounts.{AssignmentCounts}
use Rattle.assoc_assignment.specs.Assignment.{Assignment}
use Rattle.assoc_assignment.specs.Answers as Answers
use Rattle.assoc_assignment.specs.Answers.{Lists, lists_with, listed, room_with, room_of, assignment_counts, assignment_number, assignment_values}
use Rattle.assoc.specs.Association.{associate}
use Rattle.assoc.specs.Answers.{Lent, cleared, lent_after, within_call}
use Rattle.assoc_verdict.specs.Verdict.{within_verdict}
use Rattle.assoc.proofs.EndLaws.{within-accepted}
use Rattle.boost_tracker_settings.specs.declared.settings.Settings.{Settings}
use Rattle.boost_tracker_table.specs.Table.{Track}
use Rattle.boost_tracker_table.specs.Lent.{Table, tracks_in, labels_in, Call, call_with}
use Rattle.boost_tracker_verdict.specs.declared.sound.State.{State}
use Rattle.boost_tracker_verdict.specs.Boxes.{Boxes}
use Rattle.boost_tracker_verdict.specs.Verdict as Frame
use Rattle.boost_tracker_verdict.specs.Verdict.{boxes_in, or_else}
use Rattle.boost_tracker_verdict.specs.Ready.{Ready}
use Rattle.boost_tracker_verdict.proofs.ReadyLaws.{ready}
use Rattle.boost_tracker_definition.specs.Update.{det_labels, params, mh_dist, result, Stages, stages_from, steps, update_by, update}
use Rattle.boost_tracker_definition.proofs.FactLaws.{retained-few, inds-many}
use Rattle.boost_tracker_pairs.specs.declared.pairing.Prepared.{Prepared}
use Rattle.boost_tracker_pairs.specs.Pairs.{Inputs, inputs_with, roomy, roomy_for, PreparedAs, verdict_in, PrepareCall, fits, pairs_call}
use Rattle.boost_tracker_pairs.specs.Private.{Sized, ListRoom}
use Rattle.boost_tracker_pairs.proofs.PairLaws.{corners-many, trks-many, confs-many}

-- ---- for the call itself

-- what passed the test
pub fits-known : (kept held labels : ℕ) (lists : Bool) → fits kept held labels lists ≡ true → (kept ≤ 255) × (held ≤ 255) × (held ≤ labels) × (lists ≡ true)
fits-known kept held labels lists e =
    let a : Bool = leb kept 255 && leb held 255 in
    let b : Bool = a && leb held labels in
    let front = and_left b lists e in
    let sides = and_left a (leb held labels) front in (
      leb-true kept 255 (and_left (leb kept 255) (leb held 255) sides),
      leb-true held 255 (and_right (leb kept 255) (leb held 255) sides),
      leb-true held labels (and_right a (leb held labels) front),
      and_right b lists e,
    )

module _ (s : Settings) (kept held : ℕ) (l : Inputs) (track_labels : List ℕ) (lent : Lent) {room fit : Bool} (er : room ≡ roomy_for l) (ef : fit ≡ fits kept held (length track_labels) room) where
  pub pairs-short : fit ≡ false → Answers.call_with (Err TooShort) lent ≡ pairs_call s kept held l track_labels lent
  unfolding pairs_call
  pairs-short e = rw (← er, sym ef ∙ e)

  pub pairs-done : (r : Result AssignmentCounts Refusal) {q : AssociateParams} {l' : Lent} → fit ≡ true → q ≡ params s kept held
      → Answers.call_with r l'
      ≡ within_call q kept held (take (kept * 4) l.corners) (take (held * 4) l.trks) (take held l.confs) (take kept l.scores) (take kept l.labels) (take held track_labels) lent
      → Answers.call_with r l' ≡ pairs_call s kept held l track_labels lent
  unfolding pairs_call
  pairs-done r e p w = rw (← er, sym ef ∙ e, ← p) w

-- ---- sizes of the association

-- fewer boxes have room
square-less : (kept held n work : ℕ) → kept ≤ n → max held n * max held n ≤ work → max kept held * max kept held ≤ work
square-less kept held n work h w =
    let g : max kept held ≤ max held n = omega arith in
    le_trans (mul-le-mul g g) w

quadruple : (a b work : ℕ) → a ≤ b → 4 * b ≤ work → 4 * a ≤ work
quadruple a b work e f = omega arith

and_none : (a : Bool) → (a && false) ≡ false
and_none true = refl
and_none false = refl

sizes_accepted : (params : AssociateParams) (held corners trks confs scores pair_boxes pair_tracks unmatched left work64 work32 : ℕ) → Sized held corners trks confs scores work64 work32
    → ListRoom pair_boxes pair_tracks unmatched left → within_verdict params scores held corners trks confs scores (room_with pair_boxes pair_tracks unmatched left) work64 work32 ≡ Ok tt
unfolding within_verdict
sizes_accepted params held corners trks confs scores pair_boxes pair_tracks unmatched left work64 work32 s r =
    let few : min scores held ≤ scores = min-le_left scores held in
    let n = s.few-boxes in
    let m = s.few-tracks in
    let b = r.pair-boxes_fit in
    let t = r.pair-tracks_fit in
    let u = r.unmatched_fit in
    let l = r.left_fit in
    rw (
      le-ltb 255 scores n,
      le-ltb 255 held m,
      eq-eqb corners (scores * 4) s.corners_fit,
      eq-eqb trks (held * 4) s.trks_fit,
      eq-eqb confs held s.confs_fit,
      eq-eqb scores scores refl,
      and_none params.has_confidence,
      le-ltb work32 (4 * (max scores held * max scores held)) s.singles,
      le-ltb unmatched scores (omega (arith, n, u)),
      le-ltb left held (omega (arith, m, l)),
      le-ltb pair_boxes (min scores held) (omega (arith, few, n, b)),
      le-ltb pair_tracks (min scores held) (omega (arith, few, n, t)),
      le-ltb work64 (max scores held * max scores held) s.doubles,
    )

-- ---- an answer

-- one with the number 0 has these counts
assigned-is : {r : Result AssignmentCounts Refusal} {q : AssignmentCounts} {l l' : Lent} → Answers.call_with r l ≡ Answers.call_with (Ok q) l' → call_with r l ≡ call_with (Ok q) l'
assigned-is {r} {q} {l} {l'} w = by_cases r (ap (λ (k : Matching.Call AssignmentCounts Lent). k.number) w) (ap (λ (k : Matching.Call AssignmentCounts Lent). k.counts) w)
  where
    same : l ≡ l'
    same = ap (λ (k : Matching.Call AssignmentCounts Lent). k.lent) w

    by_cases : (a : Result AssignmentCounts Refusal) → assignment_number a ≡ 0 → assignment_values a ≡ q → call_with a l ≡ call_with (Ok q) l'
    by_cases (Ok counts) n e = ap (λ (k : AssignmentCounts). call_with (Ok k) l) e ∙ ap (λ (k : Lent). call_with (Ok q) k) same
    by_cases (Err why) n e = absurd (number-some why n)

never_unpaired : {L : Type 0} {r : Result AssignmentCounts Refusal} {q : AssignmentCounts} {why : Refusal} {l l' : L} → call_with r l ≡ call_with (Ok q) l' → r ≡ Err why → ⊥
never_unpaired {L} {r} {q} {why} w e =
    let clash : Ok q ≡ Err why = sym (ap (λ (k : Call (Result AssignmentCounts Refusal) L). k.answer) w) ∙ e in
    let z : ◌≡◌ {A = ℕ} 0 1 = cc in
    omega arith

-- zeros as many as the list has cells
cleared-same : (k l : List Float) → length k ≡ length l → cleared k ≡ cleared l
cleared-same k l e = ap (λ (n : ℕ). tab (λ _. of_bits binary32 0) n) e

module _ (self : Settings) (corners probs ts cs : List Float) (box_labels : List ℕ) (trackers : List Track) (labels : List ℕ) (held : ℕ) (many : length trackers ≡ held) where
  abbrev a : Assignment
  a = result same_label self corners probs trackers ts cs box_labels labels

  -- with the distances in the front of the work slice
  result-is : (work : List Float) → take (length probs * held) work ≡ mh_dist (length probs) corners trackers
      → associate (params self (length probs) held) (length probs) held corners ts (take (length probs * held) work) cs probs box_labels labels ≡ a
  unfolding result
  result-is work e = rw (many, e)

  pair_is : (lent : Lent) {r : Result AssignmentCounts Refusal} {l' : Lent} → Sized held (length corners) (length ts) (length cs) (length probs) (length lent.work64) (length lent.work32)
      → ListRoom (length lent.lists.pair_boxes) (length lent.lists.pair_tracks) (length lent.lists.unmatched_detections) (length lent.lists.unmatched_tracks)
      → take (length probs * held) lent.work32 ≡ mh_dist (length probs) corners trackers
      → Answers.call_with r l' ≡ within_call (params self (length probs) held) (length probs) held corners ts cs probs box_labels labels lent
      → call_with r l' ≡ call_with (Ok (assignment_counts a)) (lent_after a lent)
  pair_is lent {r} {l'} s room d w =
      let p : AssociateParams = params self (length probs) held in
      let v : Assignment = associate p (length probs) held corners ts (take (length probs * held) lent.work32) cs probs box_labels labels in
      let fit : within_verdict p (length probs) held (length corners) (length ts) (length cs) (length probs) (room_of lent.lists) (length lent.work64) (length lent.work32) ≡ Ok tt =
      sizes_accepted p held (length corners) (length ts) (length cs) (length probs) _ _ _ _ (length lent.work64) (length lent.work32) s room in
      let call : Answers.call_with r l' ≡ Answers.call_with (Ok (assignment_counts v)) (lent_after v lent) = w ∙ sym (within-accepted p (length probs) held corners ts cs probs box_labels labels lent fit) in
      assigned-is (rw (result-is lent.work32 d) at call)

-- ---- for a caller whose lists have room

-- the answer of `prepare` says the frame's verdict
pub verdict-is : {s : Settings} {state : State} {boxes : Boxes} {t : Table} {room work64 i : ℕ} {l₀ l : Inputs} {work₀ work : List Float} {r : Result Prepared FrameRefusal} → roomy_for l₀ ≡ true
    → PrepareCall s state boxes t room work64 i l₀ work₀ r l work → verdict_in r ≡ Frame.verdict s state t boxes room work64 (length work₀)
verdict-is {s} {state} {boxes} {t} {room} {work64} {i} {l₀} {l} {work₀} e w = w.says ∙ rw e (by_cases (Frame.verdict s state t boxes room work64 (length work₀)))
  where
    by_cases : (v : Result ⊤ FrameRefusal) → or_else v (Ok tt) ≡ v
    by_cases (Ok tt) = refl
    by_cases (Err why) = refl

-- the lists that a caller lends
abbrev pub blank : Inputs
blank = inputs_with (replicate 1020 plus_zero) (replicate 255 0) (replicate 255 plus_zero) (replicate 1020 plus_zero) (replicate 255 plus_zero)

pub roomy-blank : roomy_for blank ≡ true
unfolding roomy
roomy-blank = refl

-- lists of these lengths have room
pub roomy-lists : (l : Inputs) → length l.corners ≡ 1020 → length l.labels ≡ 255 → length l.scores ≡ 255 → length l.trks ≡ 1020 → length l.confs ≡ 255 → roomy_for l ≡ true
unfolding roomy
roomy-lists l c n p t f = rw (c, n, p, t, f)

-- the lists that a caller lends for the pairs
abbrev pub no_pairs : Lists
no_pairs = lists_with (replicate 255 0) (replicate 255 0) (replicate 255 0) (replicate 255 0)

pub room_for_pairs : ListRoom (length no_pairs.pair_boxes) (length no_pairs.pair_tracks) (length no_pairs.unmatched_detections) (length no_pairs.unmatched_tracks)
room_for_pairs = record { pair-boxes_fit = le_refl 255; pair-tracks_fit = le_refl 255; unmatched_fit = le_refl 255; left_fit = le_refl 255 }

-- what the association of an accepted frame answers and leaves: its lists are in the fronts, and the work slices are zero
pub record Found (g : Stages) (work64 work32 : List Float) (q : AssignmentCounts) (l : Lent) : Type 0 where
  pub counts_are : q ≡ assignment_counts g.result
  pub boxes_are : take q.pairs l.lists.pair_boxes ≡ boxes_of g.result.matches
  pub tracks_are : take q.pairs l.lists.pair_tracks ≡ tracks_of g.result.matches
  pub unmatched_are : take q.detections l.lists.unmatched_detections ≡ g.result.unmatched_detections
  pub left_are : take q.tracks l.lists.unmatched_tracks ≡ g.result.unmatched_tracks
  pub zeros64 : l.work64 ≡ zeroed work64
  pub zeros32 : l.work32 ≡ cleared work32

module _ (s : Settings) (state : State) (t : Table) (boxes : Boxes) (room work64 work32 : ℕ) (accepts : Frame.verdict s state t boxes room work64 work32 ≡ Ok tt) where
  abbrev pub stages : Stages
  stages = update s state boxes (tracks_in t state.count) (labels_in t state.count)

  knows : Ready s state t boxes room work64 work32
  knows = ready s state t boxes room work64 work32 accepts

  predicted-many : length stages.predicted ≡ state.count
  unfolding update_by steps stages_from
  predicted-many = length-map (tracks_in t state.count) predict ∙ knows.many

  pub boxes_cornered : length stages.det_bboxes ≡ length stages.remain_inds * 4
  unfolding update_by steps stages_from
  boxes_cornered = corners-many boxes.values stages.remain_inds

  tracks_cornered : length stages.trks ≡ state.count * 4
  unfolding update_by steps stages_from
  tracks_cornered = trks-many stages.predicted ∙ ap (λ (n : ℕ). n * 4) predicted-many

  tracks_confident : length stages.confs ≡ state.count
  unfolding update_by steps stages_from
  tracks_confident = confs-many stages.predicted ∙ predicted-many

  module _ {i : ℕ} {p : Prepared} {l : Inputs} {work : List Float} (w : PreparedAs s boxes stages state.count i p l work) where
    counted : length stages.det_scores ≡ p.kept
    counted = inds-many s state t boxes room work64 work32 accepts ∙ sym w.count

    kept_in : p.kept ≤ boxes_in boxes.values
    kept_in = rw counted at (retained-few s state t boxes room work64 work32 accepts)

    -- no more boxes are retained than the lists have room for
    pub kept_few : p.kept ≤ 255
    kept_few = omega (arith, kept_in, knows.boxes-low)

    module _ (lists : Lists) (doubles : List Float) (fit : roomy_for l ≡ true) (doubled : length doubles ≡ work64) (singled : length work ≡ work32)
        (free : ListRoom (length lists.pair_boxes) (length lists.pair_tracks) (length lists.unmatched_detections) (length lists.unmatched_tracks))
        (r : Result AssignmentCounts Refusal) {l' : Lent} (call : Answers.call_with r l' ≡ pairs_call s p.kept state.count l t.labels (record { lists = lists; work64 = doubles; work32 = work })) where
      abbrev lent : Lent
      lent = record { lists = lists; work64 = doubles; work32 = work }

      abbrev found : Assignment
      found = stages.result

      within : Answers.call_with r l' ≡ within_call (params s (length stages.det_scores) state.count) (length stages.det_scores) state.count stages.det_bboxes stages.trks stages.confs stages.det_scores
          (det_labels boxes.labels stages.remain_inds) (labels_in t state.count) lent
      unfolding pairs_call
      within =
          let space = knows.space in
          call
          ∙ rw (
            le-leb p.kept 255 kept_few,
            le-leb state.count 255 (omega (arith, space)),
            le-leb state.count (length t.labels) (omega (arith, space)),
            fit,
            w.corners_are,
            w.trks_are,
            w.confs_are,
            w.scores_are,
            w.labels_are,
            counted,
          )

      sized : Sized state.count (length stages.det_bboxes) (length stages.trks) (length stages.confs) (length stages.det_scores) (length doubles) (length work)
      sized =
          let m : ℕ = state.count in
          let n : ℕ = boxes_in boxes.values in
          let kept : ℕ = length stages.det_scores in
          let few = retained-few s state t boxes room work64 work32 accepts in
          let low = knows.boxes-low in
          let space = knows.space in
          record {
            few-boxes = omega (arith, few, low);
            few-tracks = omega (arith, space);
            corners_fit = boxes_cornered ∙ ap (λ (k : ℕ). k * 4) (sym (inds-many s state t boxes room work64 work32 accepts));
            trks_fit = tracks_cornered;
            confs_fit = tracks_confident;
            doubles = rw doubled (square-less kept m n work64 few knows.doubles);
            singles = rw singled (quadruple (max kept m * max kept m) (max m n * max m n) work32 (square-less kept m n (max m n * max m n) few (le_refl (max m n * max m n))) knows.singles);
          }

      ended : call_with r l' ≡ call_with (Ok (assignment_counts found)) (lent_after found lent)
      unfolding update_by steps stages_from
      ended =
          pair_is s stages.det_bboxes stages.det_scores stages.trks stages.confs (det_labels boxes.labels stages.remain_inds) stages.predicted (labels_in t state.count) state.count predicted-many lent
          sized free (ap (λ (n : ℕ). take (n * state.count) work) counted ∙ w.distances_are) within

      -- the pairs of an accepted frame are found
      pub never_refused : {why : Refusal} → r ≡ Err why → ⊥
      never_refused e = never_unpaired ended e

      pub found-is : (work₀ : List Float) {q : AssignmentCounts} → length work₀ ≡ work32 → r ≡ Ok q → Found stages doubles work₀ q l'
      found-is work₀ {q} same e =
          let lists_are : l'.lists ≡ listed found lists = ap (λ (k : Call (Result AssignmentCounts Refusal) Lent). k.lent.lists) ended in
          let counted : q ≡ assignment_counts found = ap assignment_values (sym e ∙ ap (λ (k : Call (Result AssignmentCounts Refusal) Lent). k.answer) ended) in
          let many : q.pairs ≡ length found.matches = ap (λ (c : AssignmentCounts). c.pairs) counted in
          record {
            counts_are = counted;
            boxes_are = rw lists_are (over-front (boxes_of found.matches) lists.pair_boxes q.pairs (many ∙ sym (length-map found.matches (λ (p : Pair). p.box))));
            tracks_are = rw lists_are (over-front (tracks_of found.matches) lists.pair_tracks q.pairs (many ∙ sym (length-map found.matches (λ (p : Pair). p.track))));
            unmatched_are = rw lists_are (over-front found.unmatched_detections lists.unmatched_detections q.detections (ap (λ (c : AssignmentCounts). c.detections) counted));
            left_are = rw lists_are (over-front found.unmatched_tracks lists.unmatched_tracks q.tracks (ap (λ (c : AssignmentCounts). c.tracks) counted));
            zeros64 = ap (λ (k : Call (Result AssignmentCounts Refusal) Lent). k.lent.work64) ended;
            zeros32 = ap (λ (k : Call (Result AssignmentCounts Refusal) Lent). k.lent.work32) ended ∙ cleared-same work work₀ (singled ∙ sym same);
          }
