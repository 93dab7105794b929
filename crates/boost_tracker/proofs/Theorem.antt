-- Demand 1, as specs/Whole.antt states it: the verdict is the first condition's, so a call that ends as `update`'s contract says is worked whole or turned down; and an accepted one has the facts of its frame.
-- The setting cap_confidence, as specs/Cap.antt states it: two calls that differ in it alone differ in the confidences above 1 alone. Equal labels, as specs/Unlabelled.antt states it. Assumes nothing.
use mathlib.Core.Path.{◌≡◌, refl, sym, ap, subst, ◌∙◌}
use mathlib.Core.Bool.{Bool, true, false, cond}
use mathlib.Core.List.{List, [], ◌∷◌}
use Prim.Native.Nat.{ℕ, ◌≤◌, ◌<◌}
use native.Mathlib.Nat.{not-suc-le-zero}
use native.Mathlib.Omega.{arith}
use lib.ListN.{length}
use lib.Seq.{get_or-take}
use Rattle.labels.specs.Label.{label_at}
use Rattle.boost_tracker_verdict.specs.declared.refusal.Refusal.{Refusal}
use Rattle.boost_tracker_verdict.specs.declared.refusal.Refusal.TheVariants.{TableNotSound, TrackNotLabelled, TrackNotWorkable, SettingNotFinite, TooManyBoxes, TableFull, BadBox, BoxNotLabelled, TooManyFrames, OutputShort, WorkShort}
use Rattle.std.specs.Bool.{⊤}
use Rattle.std.proofs.Common.{Result, Ok, Err}
use Rattle.boost_tracker_settings.specs.declared.settings.Settings.{Settings}
use Rattle.boost_tracker_verdict.specs.declared.sound.State.{State}
use Rattle.boost_tracker_settings.specs.Settings.{with_cap_confidence}
use Rattle.boost_tracker_table.specs.Table.{Track, young, zero_filled}
use Rattle.boost_tracker_table.specs.Lent.{places_of, tracks_in, labels_in, holding, Call, call_with}
use Rattle.boost_tracker_verdict.specs.Boxes.{Boxes}
use Rattle.boost_tracker_verdict.specs.Verdict.{answer, of_table, of_boxes, of_room, or_else, verdict, where_accepted}
use Rattle.boost_tracker_verdict.proofs.ReadyLaws.{ready}
use Rattle.boost_tracker_definition.specs.Update.{Stages, dlo, duo, after_dlo, after_duo, result, stages_from, steps, update_by, labels_retained}
use Rattle.boost_tracker_definition.specs.Facts.{FrameFacts}
use Rattle.boost_tracker_definition.proofs.FactLaws.{frame_facts, frame_label}
use Rattle.boost_tracker_definition.proofs.UnlabelledLaws.{of_before}
use Rattle.boost_tracker.specs.declared.frame.UpdateAnswer.{UpdateAnswer}
use Rattle.boost_tracker.specs.Frame.{refused_answer, accepted_answer, Memory, memory_after, verdict_of, worked, labels_of, updated}
use Rattle.boost_tracker.specs.Whole.{lowest_bad, lowest_unlabelled, conditions, first, said, WholeOrTurnedDown, turned_down, whole}
use Rattle.boost_tracker.specs.Cap.{CapOnly}
use Rattle.boost_tracker.specs.Unlabelled.{before, OneLabel, ResultsOfBefore, EqualLabels}
use Rattle.boost_tracker.proofs.CapLaws.{none-capped, laid-capped, laid-archived}
use Rattle.boost_tracker.proofs.UnlabelledLaws.{records-labelled, labels_kept_lem}

-- ---- the verdict is the first condition's

in_order : (bad none : ℕ) (c11 c10 c12 c13 c14 c15 c16 c20 c17 c18 c19 : Bool)
    → answer
    (or_else (cond c11 (Err TableNotSound) (cond c10 (Err TrackNotLabelled) (cond c12 (Err TrackNotWorkable) (cond c13 (Err SettingNotFinite) (Ok tt)))))
    (or_else (cond c14 (Err TooManyBoxes) (cond c15 (Err TableFull) (cond c16 (Err (BadBox bad)) (cond c20 (Err (BoxNotLabelled none)) (Ok tt)))))
    (cond c17 (Err TooManyFrames) (cond c18 (Err OutputShort) (cond c19 (Err WorkShort) (Ok tt))))))
    ≡ said
    (first ((11, c11) ∷ (10, c10) ∷ (12, c12) ∷ (13, c13) ∷ (14, c14) ∷ (15, c15) ∷ (16, c16) ∷ (20, c20) ∷ (17, c17) ∷ (18, c18) ∷ (19, c19) ∷ []))
    bad none
unfolding first
in_order bad none true c10 c12 c13 c14 c15 c16 c20 c17 c18 c19 = refl
in_order bad none false true c12 c13 c14 c15 c16 c20 c17 c18 c19 = refl
in_order bad none false false true c13 c14 c15 c16 c20 c17 c18 c19 = refl
in_order bad none false false false true c14 c15 c16 c20 c17 c18 c19 = refl
in_order bad none false false false false true c15 c16 c20 c17 c18 c19 = refl
in_order bad none false false false false false true c16 c20 c17 c18 c19 = refl
in_order bad none false false false false false false true c20 c17 c18 c19 = refl
in_order bad none false false false false false false false true c17 c18 c19 = refl
in_order bad none false false false false false false false false true c18 c19 = refl
in_order bad none false false false false false false false false false true c19 = refl
in_order bad none false false false false false false false false false false true = refl
in_order bad none false false false false false false false false false false false = refl

module _ (s : Settings) (state : State) (boxes : Boxes) (m : Memory) where
  verdict-first : answer (verdict_of s state boxes m) ≡ said (first (conditions s state boxes m)) (lowest_bad s state boxes m) (lowest_unlabelled s state boxes m)
  unfolding verdict of_table of_boxes of_room
  verdict-first = in_order _ _ _ _ _ _ _ _ _ _ _ _ _

  refusal-high : (why : Refusal) → 10 ≤ (answer (Err why)).0
  refusal-high TableNotSound = omega arith
  refusal-high TrackNotLabelled = omega arith
  refusal-high TrackNotWorkable = omega arith
  refusal-high SettingNotFinite = omega arith
  refusal-high TooManyBoxes = omega arith
  refusal-high TableFull = omega arith
  refusal-high (BadBox i) = omega arith
  refusal-high (BoxNotLabelled i) = omega arith
  refusal-high TooManyFrames = omega arith
  refusal-high OutputShort = omega arith
  refusal-high WorkShort = omega arith

  -- every call of `update`, by its contract
  pub worked-whole_or_turned_down : {r : UpdateAnswer} {m' : Memory} → call_with r m' ≡ updated s state boxes m → WholeOrTurnedDown s state boxes m r m'
  unfolding updated
  worked-whole_or_turned_down {r} {m'} ends = by_cases (verdict_of s state boxes m) verdict-first ends
    where
      by_cases : (v : Result ⊤ Refusal) → answer v ≡ said (first (conditions s state boxes m)) (lowest_bad s state boxes m) (lowest_unlabelled s state boxes m)
          → call_with r m' ≡ where_accepted v (call_with (accepted_answer (worked s state boxes m)) (memory_after s (labels_of state boxes m (worked s state boxes m)) (worked s state boxes m) m)) (call_with (refused_answer v state) m)
          → WholeOrTurnedDown s state boxes m r m'
      by_cases (Ok tt) e leaves =
          whole (sym (ap (λ (p : ℕ × ℕ). p.0) e)) (ap (λ (k : Call UpdateAnswer Memory). k.answer) leaves) (ap (λ (k : Call UpdateAnswer Memory). k.lent) leaves)
      by_cases (Err why) e leaves =
          let number : (answer (Err why)).0 ≡ first (conditions s state boxes m) = ap (λ (p : ℕ × ℕ). p.0) e in
          let answered : r ≡ refused_answer (Err why) state = ap (λ (k : Call UpdateAnswer Memory). k.answer) leaves in
          let refuses : r.verdict ≡ Err why = ap (λ (a : UpdateAnswer). a.verdict) answered in
          turned_down
          (rw number at (refusal-high why))
          (record {
            says = ap answer refuses ∙ e;
            rest = answered ∙ ap (λ (v : Result ⊤ Refusal). refused_answer v state) (sym refuses);
            memory = ap (λ (k : Call UpdateAnswer Memory). k.lent) leaves;
          })

  -- what an accepted call answers and leaves
  abbrev accepted : Call UpdateAnswer Memory
  accepted = call_with (accepted_answer (worked s state boxes m)) (memory_after s (labels_of state boxes m (worked s state boxes m)) (worked s state boxes m) m)

  -- a call whose answer is accepted
  accepted-call : {r : UpdateAnswer} {m' : Memory} → call_with r m' ≡ updated s state boxes m → r.verdict ≡ Ok tt → (verdict_of s state boxes m ≡ Ok tt) × (call_with r m' ≡ accepted)
  unfolding updated
  accepted-call {r} {m'} ends accepts = by_cases (verdict_of s state boxes m) refl ends
    where
      by_cases : (v : Result ⊤ Refusal) → verdict_of s state boxes m ≡ v → call_with r m' ≡ where_accepted v accepted (call_with (refused_answer v state) m) → (verdict_of s state boxes m ≡ Ok tt) × (call_with r m' ≡ accepted)
      by_cases (Ok tt) e leaves = (e, leaves)
      by_cases (Err why) e leaves =
          let refuses : ◌≡◌ {A = Result ⊤ Refusal} (Err why) (Ok tt) = sym (ap (λ (k : Call UpdateAnswer Memory). k.answer.verdict) leaves) ∙ accepts in
          let none : (answer (Err why)).0 ≡ 0 = ap (λ (v : Result ⊤ Refusal). (answer v).0) refuses in
          let high = refusal-high why in
          absurd (omega arith)

  -- the facts of its frame
  pub accepted_facts : {r : UpdateAnswer} {m' : Memory} → call_with r m' ≡ updated s state boxes m → r.verdict ≡ Ok tt
      → FrameFacts s state boxes (tracks_in m.table state.count) (labels_in m.table state.count) (worked s state boxes m) m'.table
  accepted_facts {r} {m'} ends accepts =
      let g : Stages = worked s state boxes m in
      let call = accepted-call ends accepts in
      let left : m'.table ≡ holding g.retained (labels_retained s (labels_of state boxes m g) g) m.table = ap (λ (k : Call UpdateAnswer Memory). k.lent.table) call.1 in
      rw left (frame_facts s state m.table boxes _ _ _ call.0)

-- ---- the setting cap_confidence: neither the verdict nor the definition of a frame looks at it

module _ (s : Settings) (state : State) (boxes : Boxes) (m : Memory) where
  abbrev without : Settings
  without = with_cap_confidence s false

  abbrev capping : Settings
  capping = with_cap_confidence s true

  abbrev frame : Stages
  frame = worked without state boxes m

  same-verdict : verdict_of capping state boxes m ≡ verdict_of without state boxes m
  unfolding verdict of_table
  same-verdict = refl

  same-frame : worked capping state boxes m ≡ frame
  unfolding update_by steps stages_from after_dlo after_duo dlo duo result
  same-frame = refl

  -- what a call answers and leaves by a verdict and a frame
  abbrev By : Bool → Result ⊤ Refusal → Stages → UpdateAnswer → Memory → Type 0
  By cap v g r m' = call_with r m' ≡ where_accepted v (call_with (accepted_answer g) (memory_after (with_cap_confidence s cap) (labels_of state boxes m g) g m)) (call_with (refused_answer v state) m)

  -- every two calls of `update`, by its contract, whose settings differ in cap_confidence alone
  pub cap_only : {r r' : UpdateAnswer} {m₁ m₂ : Memory} → call_with r m₁ ≡ updated without state boxes m → call_with r' m₂ ≡ updated capping state boxes m → CapOnly r m₁ r' m₂
  unfolding updated update_by steps stages_from
  cap_only {r} {r'} {m₁} {m₂} plain capped =
      let judged : By true (verdict_of without state boxes m) (worked capping state boxes m) r' m₂ = subst (λ (v : Result ⊤ Refusal). By true v (worked capping state boxes m) r' m₂) same-verdict capped in
      by_cases (verdict_of without state boxes m) plain (subst (λ (g : Stages). By true (verdict_of without state boxes m) g r' m₂) same-frame judged)
    where
      by_cases : (v : Result ⊤ Refusal) → By false v frame r m₁ → By true v frame r' m₂ → CapOnly r m₁ r' m₂
      by_cases (Ok tt) plain capped =
          let answered : r ≡ accepted_answer frame = ap (λ (k : Call UpdateAnswer Memory). k.answer) plain in
          let left : m₁ ≡ memory_after without (labels_of state boxes m frame) frame m = ap (λ (k : Call UpdateAnswer Memory). k.lent) plain in
          let answered' : r' ≡ accepted_answer frame = ap (λ (k : Call UpdateAnswer Memory). k.answer) capped in
          let left' : m₂ ≡ memory_after capping (labels_of state boxes m frame) frame m = ap (λ (k : Call UpdateAnswer Memory). k.lent) capped in
          rw (answered, left, answered', left')
          (record {
            answer = refl;
            table = refl;
            work64 = refl;
            work32 = refl;
            output = laid-capped frame.frame_count s.min_hits frame.started.trackers (labels_of state boxes m frame) m.output;
            archived = laid-archived frame.frame_count s.min_hits frame.started.trackers (labels_of state boxes m frame) m.output;
          })
      by_cases (Err why) plain capped =
          let answered : r ≡ refused_answer (Err why) state = ap (λ (k : Call UpdateAnswer Memory). k.answer) plain in
          let left : m₁ ≡ m = ap (λ (k : Call UpdateAnswer Memory). k.lent) plain in
          let answered' : r' ≡ refused_answer (Err why) state = ap (λ (k : Call UpdateAnswer Memory). k.answer) capped in
          let left' : m₂ ≡ m = ap (λ (k : Call UpdateAnswer Memory). k.lent) capped in
          rw (answered, left, answered', left') (record { answer = refl; table = refl; work64 = refl; work32 = refl; output = none-capped m.output; archived = λ i h. absurd (not-suc-le-zero h) })

-- ---- equal labels

module _ (label : ℕ) (s : Settings) (state : State) (boxes : Boxes) (m : Memory) (e : verdict_of s state boxes m ≡ Ok tt) (one : OneLabel label state boxes m) where
  abbrev labelled : Stages
  labelled = worked s state boxes m

  same-stages : labelled ≡ before s state boxes m
  same-stages =
      let knows = ready s state m.table boxes _ _ _ e in
      let space = knows.space in
      let few : length (tracks_in m.table state.count) ≤ 255 = rw knows.many (omega arith) in
      (of_before s state boxes (tracks_in m.table state.count) (labels_in m.table state.count)).equal_is label knows.boxes-low few one.of_boxes_lem
      (λ j h. let c : j < state.count = rw knows.many at h in get_or-take state.count m.table.labels j 0 c ∙ one.of_tracks j c)

  left_by : ResultsOfBefore label s state boxes m labelled (accepted_answer labelled) (memory_after s (labels_of state boxes m labelled) labelled m)
  unfolding update_by steps stages_from
  left_by =
      let ts : List Track = labelled.started.trackers in
      let all : List ℕ = labels_of state boxes m labelled in
      let each : (i : ℕ) → i < length ts → label_at all i ≡ label = frame_label s state m.table boxes _ _ _ e label one.of_tracks one.of_boxes_lem in
      record {
        stages = refl;
        answer = refl;
        floats = refl;
        counters = refl;
        records = records-labelled ts all label each s.cap_confidence labelled.frame_count s.min_hits m.output;
        labels = ap (λ (l : List ℕ). zero_filled l (places_of m.table) m.table.labels) (labels_kept_lem ts all label each (young s.max_age));
        work64 = refl;
        work32 = refl;
      }

pub equal_labels : EqualLabels
equal_labels label s state boxes m r m' ends accepts one =
    let call = accepted-call s state boxes m ends accepts in
    let answered : r ≡ accepted_answer (worked s state boxes m) = ap (λ (k : Call UpdateAnswer Memory). k.answer) call.1 in
    let left : m' ≡ memory_after s (labels_of state boxes m (worked s state boxes m)) (worked s state boxes m) m = ap (λ (k : Call UpdateAnswer Memory). k.lent) call.1 in
    rw (answered, left)
    (subst (λ (g : Stages). ResultsOfBefore label s state boxes m g (accepted_answer (worked s state boxes m)) (memory_after s (labels_of state boxes m (worked s state boxes m)) (worked s state boxes m) m))
    (same-stages label s state boxes m call.0 one) (left_by label s state boxes m call.0 one))
