-- Step 8 is as its contract says, steps 1 to 7 and step 8 one after the other are the definition, and a refused call changes nothing. Assumes nothing.
use mathlib.Core.Path.{◌≡◌, refl, sym, ap, ◌∙◌}
use mathlib.Core.Bool.{Bool}
use mathlib.Core.List.{List}
use Prim.Native.Nat.{ℕ, ◌+◌, ◌/◌, ◌≤◌, ◌<◌, min}
use native.Mathlib.Nat.{le_trans, le_of_eq, min-eq_left}
use native.Mathlib.Omega.{arith}
use lib.ListN.{length, get_or, take}
use lib.Seq.{get_or-take}
use lib.Ieee.{Float}
use Rattle.laws.specs.Tab.{tab_ext, tab-map, indices}
use Rattle.laws.specs.Picked.{picked-below}
use Rattle.laws.specs.Sieve.{sieve}
use Rattle.laws.specs.Laid.{laid}
use Rattle.laws.specs.Over.{over-front}
use Rattle.labels.specs.Label.{label_at}
use Rattle.assoc_matching.specs.Answers.{zeroed}
use Rattle.assoc.specs.Answers.{cleared}
use Rattle.records.specs.TrackRecord.{track_bytes}
use Rattle.boost_tracker_verdict.specs.declared.refusal.Refusal.{Refusal}
use Rattle.std.specs.Bool.{⊤}
use Rattle.std.proofs.Common.{Result, Ok, Err}
use Rattle.boost_tracker_settings.specs.declared.settings.Settings.{Settings}
use Rattle.boost_tracker_verdict.specs.declared.sound.State.{State}
use Rattle.boost_tracker_table.specs.Table.{Track, blank, capacity, places_in, placed, tracks, young, retained, Laying, Retired, Emptied, labels_where, zero_filled, labels_retired, labels_emptied}
use Rattle.boost_tracker_table.specs.Lent.{Table, table_with, places_of, tracks_in, labels_in, laid_over, holding, Call, call_with}
use Rattle.boost_tracker_table.proofs.Laws.{tracks-many, lay_here, lay_tracks, lay_finished}
use Rattle.boost_tracker_table.proofs.LabelLaws.{labels-finished, laid-places, holding-laid}
use Rattle.boost_tracker_emission.specs.Emission.{Emitted, emitted_inds, bytes_at}
use Rattle.boost_tracker_verdict.specs.Boxes.{Boxes}
use Rattle.boost_tracker_verdict.specs.Verdict.{boxes_in, verdict}
use Rattle.boost_tracker_verdict.specs.Ready.{Ready}
use Rattle.boost_tracker_verdict.proofs.ReadyLaws.{ready}
use Rattle.boost_tracker_definition.specs.Update.{Stages, stages_from, steps, update_by, update, labels_retained}
use Rattle.boost_tracker_definition.specs.Facts.{FrameFacts, labels_all}
use Rattle.boost_tracker_definition.proofs.FactLaws.{frame_facts, started-few}
use Rattle.boost_tracker_steps.specs.declared.all_steps.Advanced.{Advanced}
use Rattle.boost_tracker_steps.specs.AllSteps as Steps
use Rattle.boost_tracker_steps.specs.AllSteps.{accepted_advance, Lent, lent_with, lent_after, advanced}
use Rattle.boost_tracker.specs.declared.frame.UpdateAnswer.{UpdateAnswer}
use Rattle.boost_tracker.specs.Frame.{refused_answer, accepted_answer, Memory, memory_with, updated}
use Rattle.boost_tracker.specs.Private.{FinishRoom, Ending, ending_with, answer_of, finished}

-- ---- labels

-- the labels of tracks that are kept, of as many labels as there are tracks
where_front : (p : Track → Bool) (ts : List Track) (l : List ℕ) (n : ℕ) → length ts ≤ n → labels_where p ts l ≡ labels_where p ts (take n l)
unfolding labels_where
where_front p ts l n h =
    let inds : List ℕ = sieve (λ i. p (get_or ts i blank)) (indices (length ts)) in
    let same : (k : ℕ) → k < length inds → label_at l (get_or inds k 0) ≡ label_at (take n l) (get_or inds k 0) =
    λ k b. sym (get_or-take n l (get_or inds k 0) 0 (le_trans (picked-below (λ i. p (get_or ts i blank)) (length ts) k b) h)) in
    sym (tab-map (label_at l) inds (length inds) 0 refl) ∙ tab_ext _ _ (length inds) same ∙ tab-map (label_at (take n l)) inds (length inds) 0 refl

-- ---- step 8

-- the records of all tracks, which have room, then the retired and the cleared table
pub finish-is : (s : Settings) (state : State) (a : Advanced) (f : List Float) (c n out : List ℕ) {f₁ f₂ : List Float} {c₁ c₂ n₁ n₂ out' : List ℕ} {places count put : ℕ}
    → FinishRoom state a.started (places_in (length f) (length c) (length n)) (length out / track_bytes) → places ≡ places_in (length f) (length c) (length n)
    → Emitted (tracks f c (min (state.count + a.started) (length out / track_bytes))) (take (state.count + a.started) n) (state.frames + 1) s.min_hits s.cap_confidence out out' put
    → n₁ ≡ labels_retired f c (state.count + a.started) s.max_age n
    → Retired f c (state.count + a.started) s.max_age f₁ c₁ count → Emptied f₁ c₁ (placed (length f₁) (length c₁) places) (tracks f₁ c₁ (min count places)) f₂ c₂
    → n₂ ≡ labels_emptied count places n₁
    → call_with (answer_of state a count put) (ending_with f₂ c₂ n₂ out') ≡ finished s state a (ending_with f c n out)
unfolding finished
finish-is s state a f c n out {f₁} {f₂} {c₁} {c₂} {n₁} {n₂} {out'} {places} {count} {put} room ep shows named retires empties clears =
    let all : ℕ = state.count + a.started in
    let ts : List Track = tracks f c all in
    let young' : Track → Bool = young s.max_age in
    let fits : all ≤ places = rw ep room.placed in
    let low : places ≤ capacity (length f) (length c) = rw ep (omega arith) in
    let long : places ≤ length n = rw ep (omega arith) in
    let whole : min all (length out / track_bytes) ≡ all = min-eq_left room.recorded in
    let shown = rw whole at shows in
    let many : length ts ≡ all = tracks-many f c all (le_trans fits low) in
    let ends = lay_finished (lay_here f c all) many fits low retires empties in
    let ls : List ℕ = labels_where young' ts (take all n) in
    let labelled : n₂ ≡ zero_filled ls places n =
    labels-finished f c n all young' places fits low long ends.0 named clears ∙ ap (λ (l : List ℕ). zero_filled l places n) (where_front young' ts n all (le_of_eq many)) in
    rw (ends.0, ends.1.floats, ends.1.counters, labelled, ep, shown.count, shown.bytes)

-- ---- a call

-- the memory that a call leaves, of what step 8 leaves and the work slices
abbrev joined : List Float → List Float → Call UpdateAnswer Ending → Call UpdateAnswer Memory
joined work64 work32 k = call_with k.answer (record { table = k.lent.table; output = k.lent.output; work64 = work64; work32 = work32 })

-- what the answer of steps 1 to 7 tells of the verdict
refusal-is : (g : Stages) {why : Refusal} (v : Result ⊤ Refusal) → Err why ≡ Steps.answer_of g v → v ≡ Err why
refusal-is g (Ok tt) e = absurd (cc)
refusal-is g {why} (Err other) e = let same : why ≡ other = cc in rw same

accept-is : (g : Stages) {a : Advanced} (v : Result ⊤ Refusal) → Ok a ≡ Steps.answer_of g v → v ≡ Ok tt
accept-is g (Ok tt) e = refl
accept-is g (Err why) e = absurd (cc)

module _ (s : Settings) (state : State) (f : List Float) (c n : List ℕ) (boxes : Boxes) (out : List ℕ) (work64 work32 : List Float)
    {q : Result Advanced Refusal} {f₁ work64' work32' : List Float} {c₁ n₁ : List ℕ} (w : call_with q (lent_with f₁ c₁ n₁ work64' work32') ≡ advanced s state boxes (length out) (lent_with f c n work64 work32)) where
  abbrev table : Table
  table = table_with f c n

  abbrev v : Result ⊤ Refusal
  v = verdict s state table boxes (length out) (length work64) (length work32)

  abbrev labels : List ℕ
  labels = labels_in table state.count

  abbrev g : Stages
  g = update s state boxes (tracks_in table state.count) labels

  -- the labels of all trackers
  abbrev all : List ℕ
  all = labels_all boxes labels g

  abbrev lent : Lent
  lent = lent_with f c n work64 work32

  answered-is : q ≡ Steps.answer_of g v
  unfolding advanced
  answered-is = ap (λ (k : Call (Result Advanced Refusal) Lent). k.answer) w

  -- a refused call changes nothing
  pub update-refused : {why : Refusal} {r : UpdateAnswer} → q ≡ Err why → r ≡ refused_answer (Err why) state
      → call_with r (memory_with f₁ c₁ n₁ out work64' work32') ≡ updated s state boxes (memory_with f c n out work64 work32)
  unfolding advanced updated
  update-refused {why} {r} h e =
      let refuses : v ≡ Err why = refusal-is g v (sym h ∙ answered-is) in
      let left : lent_with f₁ c₁ n₁ work64' work32' ≡ lent = ap (λ (k : Call (Result Advanced Refusal) Lent). k.lent) (rw refuses at w) in
      rw refuses (ap (λ (l : Lent). call_with r (memory_with l.table.floats l.table.counters l.table.labels out l.work64 l.work32)) left ∙ rw e)

  module _ {a : Advanced} (h : q ≡ Ok a) where
    accepts : v ≡ Ok tt
    accepts = accept-is g v (sym h ∙ answered-is)

    knows : Ready s state table boxes (length out) (length work64) (length work32)
    knows = ready s state table boxes (length out) (length work64) (length work32) accepts

    leaves : call_with q (lent_with f₁ c₁ n₁ work64' work32') ≡ call_with (Ok (accepted_advance g)) (lent_after g all lent)
    unfolding advanced
    leaves = rw accepts at w

    answer-is : a ≡ accepted_advance g
    answer-is = let same : Ok a ≡ Ok (accepted_advance g) = sym h ∙ ap (λ (k : Call (Result Advanced Refusal) Lent). k.answer) leaves in cc

    table_is : table_with f₁ c₁ n₁ ≡ laid_over g.started.trackers all table
    table_is = ap (λ (k : Call (Result Advanced Refusal) Lent). k.lent.table) leaves

    facts : FrameFacts s state boxes (tracks_in table state.count) labels g (holding g.retained (labels_retained s all g) table)
    facts = frame_facts s state table boxes (length out) (length work64) (length work32) accepts

    few : length g.result.unmatched_detections ≤ boxes_in boxes.values
    few = started-few s state table boxes (length out) (length work64) (length work32) accepts

    many : length g.started.trackers ≡ state.count + length g.result.unmatched_detections
    many = facts.many ∙ rw knows.many

    placed-all : length g.started.trackers ≤ places_of table
    placed-all = let space = knows.space in let low = few in rw many (omega arith)

    labels-placed : length all ≤ places_of table
    labels-placed = rw facts.many-labels placed-all

    lays : Laying f c (laid_over g.started.trackers all table).floats (laid_over g.started.trackers all table).counters g.started.trackers
    lays = record { floats = refl; counters = refl }

    pub finish-room : FinishRoom state a.started (places_in (length f₁) (length c₁) (length n₁)) (length out / track_bytes)
    finish-room =
        let ids = knows.ids-low in
        let frames = knows.frames-low in
        let low = knows.boxes-low in
        let space = knows.space in
        let records = knows.output in
        let fewer = few in
        let same : places_of (table_with f₁ c₁ n₁) ≡ places_of table = ap places_of table_is ∙ laid-places g.started.trackers all table placed-all labels-placed in
        rw (answer-is, same) (record { few-held = omega arith; few-started = omega arith; frames-low = frames; ids_fit = omega arith; placed = omega arith; recorded = omega arith })

    -- step 8 over what steps 1 to 7 leave
    finished-is : finished s state (accepted_advance g) (record { table = laid_over g.started.trackers all table; output = out })
        ≡ call_with (accepted_answer g) (record {
          table = holding g.retained (labels_retained s all g) table;
          output = laid (bytes_at s.cap_confidence g.frame_count g.started.trackers all) track_bytes (emitted_inds g.frame_count s.min_hits g.started.trackers) out;
        })
    unfolding finished update_by steps stages_from
    finished-is =
        let xs : List Track = g.started.trackers in
        let n : ℕ = state.count + length g.result.unmatched_detections in
        let space = knows.space in
        let fewer = few in
        let tracked : tracks_in (laid_over xs all table) n ≡ xs = lay_tracks lays many (omega arith) in
        let named : labels_in (laid_over xs all table) n ≡ all = over-front all table.labels n (sym (facts.many-labels ∙ many)) in
        rw (tracked, named, holding-laid xs (retained s.max_age xs) all (labels_retained s all g) table placed-all labels-placed, facts.last_id)

    pub update-accepted : {r : UpdateAnswer} {f₂ : List Float} {c₂ n₂ out' : List ℕ} → call_with r (ending_with f₂ c₂ n₂ out') ≡ finished s state a (ending_with f₁ c₁ n₁ out)
        → call_with r (memory_with f₂ c₂ n₂ out' work64' work32') ≡ updated s state boxes (memory_with f c n out work64 work32)
    unfolding updated
    update-accepted {r} {f₂} {c₂} {n₂} {out'} z =
        let ends : finished s state a (ending_with f₁ c₁ n₁ out) ≡ finished s state (accepted_advance g) (record { table = laid_over g.started.trackers all table; output = out }) =
        rw answer-is (ap (λ (k : Call (Result Advanced Refusal) Lent). finished s state (accepted_advance g) (record { table = k.lent.table; output = out })) leaves) in
        let doubles : work64' ≡ zeroed work64 = ap (λ (k : Call (Result Advanced Refusal) Lent). k.lent.work64) leaves in
        let singles : work32' ≡ cleared work32 = ap (λ (k : Call (Result Advanced Refusal) Lent). k.lent.work32) leaves in
        rw accepts (ap (joined work64' work32') (z ∙ ends ∙ finished-is) ∙ rw (doubles, singles))
